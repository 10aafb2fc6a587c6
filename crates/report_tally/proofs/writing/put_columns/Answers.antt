use Rattle.std.proofs.Common.{◌+◌, refl, subst, sym, arith}
use Rattle.std.proofs.lemmas.List.Elements.{All-get_or}
use Rattle.base_pen.proofs.Putting.{adds_all_numbered, adds_numbered}
use Rattle.report_tally.specs.CountedTexts.{column_text}
use Rattle.report_tally.specs.inner.Lines.{IsShortColumn}
use Rattle.report_tally.proofs.writing.put_columns.Goals as goal

pub put_column-requires : goal.put_column-requires
put_column-requires g c =
    subst IsShortColumn (sym c.index-columns-index.is) (All-get_or IsShortColumn c.args.columns.now c.loop-index.index _ c.loop-index-test.true c.requires.short)

pub loop-index-preserved : goal.loop-index-preserved
loop-index-preserved g c =
    adds_numbered (column_text c.args.monitor.now) 1 c.args.columns.now c.loop-index.index (c.loop-index.index + 1) c.index-columns-index.result _ (omega arith) c.loop-index-test.true c.index-columns-index.is
    refl c.loop-index.invariant c.put_column.ensures

pub returns : goal.returns
returns g c = adds_all_numbered (column_text c.args.monitor.now) 1 c.args.columns.now c.loop-index.index c.loop-index-test.false c.loop-index.invariant
