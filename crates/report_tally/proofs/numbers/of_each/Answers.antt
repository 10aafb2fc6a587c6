use Rattle.std.proofs.Common.{Option, Some, ap, arith, sym, ◌∙◌}
use Rattle.std.proofs.lemmas.Option.{slice_get-get_or}
use Rattle.plan_counted.specs.declared.counted.Told.{Told}
use Rattle.report_verdict.proofs.Pairs.{all_taken, one_more_at}
use Rattle.report_tally.specs.CountedTexts.{IsTypedTold}
use Rattle.report_tally.proofs.numbers.of_each.Goals as goal

pub loop-told-preserved : goal.loop-told-preserved
loop-told-preserved c =
    one_more_at IsTypedTold c.args.column.now c.loop-told.told-index c.told-item.result
    (slice_get-get_or c.args.column.now c.loop-told.told-index c.told-item.result c.loop-told-test.true ∙ ap {B = Option Told} (λ (one : Told). Some one) (sym c.told-item.is))
    c.loop-told.invariant c.of_told.ensures

pub returns : goal.returns
returns c = all_taken IsTypedTold c.args.column.now c.loop-told.told-index (omega (arith, c.loop-told-test.false)) c.loop-told.invariant
