use Rattle.std.proofs.Common.{sym, ◌∙◌}
use Rattle.plan_fits.proofs.MadeQuestions.{none_at_end, none_on_the_way}
use Rattle.plan_fits.proofs.ways.path_outside.Goals as goal

pub returns-in_default : goal.returns-in_default
returns-in_default c = none_at_end c.args.answer.now c.args.steps.now (sym c.in_default.is ∙ c.in_ok-made.ensures)

pub returns-in_default-2 : goal.returns-in_default-2
returns-in_default-2 c =
    none_on_the_way c.args.answer.now c.args.steps.now c.loop-left.left c.index-steps-left.result c.loop-left.made _ c.loop-left-test.true c.loop-left.invariant.0 c.index-steps-left.is c.loop-left.invariant.2
    (sym c.in_default-2.is ∙ c.in_ok-next.ensures)
