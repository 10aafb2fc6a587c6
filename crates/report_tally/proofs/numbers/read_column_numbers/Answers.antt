use Rattle.std.proofs.Common.{Option, Some, ap, arith, sym, ◌∙◌}
use Rattle.std.proofs.lemmas.Option.{slice_get-get_or}
use Rattle.plan_counted.specs.declared.counted.Column.{Column}
use Rattle.report_verdict.proofs.Pairs.{all_taken, one_more_at}
use Rattle.report_tally.specs.CountedTexts.{HasTypedColumn}
use Rattle.report_tally.proofs.numbers.read_column_numbers.Goals as goal

pub loop-column-preserved : goal.loop-column-preserved
loop-column-preserved c =
    one_more_at HasTypedColumn c.args.columns.now c.loop-column.column-index c.column-item.result
    (slice_get-get_or c.args.columns.now c.loop-column.column-index c.column-item.result c.loop-column-test.true
    ∙ ap {B = Option (Option Column)} (λ (one : Option Column). Some one) (sym c.column-item.is))
    c.loop-column.invariant c.of_column.ensures

pub returns : goal.returns
returns c = all_taken HasTypedColumn c.args.columns.now c.loop-column.column-index (omega (arith, c.loop-column-test.false)) c.loop-column.invariant
