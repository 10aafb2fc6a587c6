use Rattle.std.proofs.Common.{sym, subst, ◌∙◌}
use Rattle.logic_linear.specs.declared.formula.Formula.{Formula}
use Rattle.logic_solve.specs.Refutation.{IsAnswer}
use Rattle.plan_fits.proofs.Exactness.{answer_fits}
use Rattle.plan_fits.proofs.MadeQuestions.{made_there, value_there}
use Rattle.plan_fits.proofs.fit.fit_of.Goals as goal

pub returns-in_ok-refute-in-Some : goal.returns-in_ok-refute-in-Some
returns-in_ok-refute-in-Some c =
    answer_fits c.args.monitor.now c.args.kept.now c.args.block c.in_ok-refute-in-Some.field-0 c.blocks-2.ensures.rule c.requires.kept c.refuted_formula_is_false.ensures
    (made_there _ _ c.in-Some.question (sym c.in-Some.is ∙ c.in_ok-outside_question.ensures.made))
    (subst (λ (one : Formula). IsAnswer one c.in_ok-refute-in-Some.field-0) (value_there _ _ c.in-Some.question (sym c.in-Some.is ∙ c.in_ok-outside_question.ensures.made)) c.in_ok-refute-in-Some.ensures.answer)
