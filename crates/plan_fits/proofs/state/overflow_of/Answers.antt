use Rattle.std.proofs.Common.{sym, subst, ◌∙◌}
use Rattle.logic_linear.specs.declared.formula.Formula.{Formula}
use Rattle.logic_solve.specs.Solutions.{IsSolution}
use Rattle.plan_fits.proofs.MadeQuestions.{value_there}
use Rattle.plan_fits.proofs.OverflowStates.{no_question, solved_overflows}
use Rattle.plan_fits.proofs.state.overflow_of.Goals as goal

pub returns-in-None : goal.returns-in-None
returns-in-None c = no_question c.args.monitor.now c.args.kept.now c.args.block (sym c.in-None.is ∙ c.in_ok-outside_question.ensures.made)

pub returns-in_ok-solution-in-Some : goal.returns-in_ok-solution-in-Some
returns-in_ok-solution-in-Some c =
    solved_overflows c.args.monitor.now c.args.kept.now c.args.block c.in_ok-solution-in-Some.field-0 c.blocks-2.ensures.rule c.requires.kept
    (subst (λ (one : Formula). IsSolution one c.in_ok-solution-in-Some.field-0) (value_there _ _ c.in-Some.question (sym c.in-Some.is ∙ c.in_ok-outside_question.ensures.made)) c.in_ok-solution-in-Some.ensures)
