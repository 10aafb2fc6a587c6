use Rattle.std.proofs.Common.{refl, arith}
use Rattle.base_pen.proofs.Putting.{adds_all_numbered, adds_numbered}
use Rattle.report_tally.specs.CountedTexts.{told_text}
use Rattle.report_tally.proofs.writing.put_each.Goals as goal

pub loop-index-preserved : goal.loop-index-preserved
loop-index-preserved g c =
    adds_numbered (told_text c.args.monitor.now c.args.condition c.args.row) 0 c.args.column.now c.loop-index.index c.loop-index.index c.index-column-index.result _ (omega arith) c.loop-index-test.true c.index-column-index.is
    refl c.loop-index.invariant c.put_told.ensures

pub returns : goal.returns
returns g c = adds_all_numbered (told_text c.args.monitor.now c.args.condition c.args.row) 0 c.args.column.now c.loop-index.index c.loop-index-test.false c.loop-index.invariant
