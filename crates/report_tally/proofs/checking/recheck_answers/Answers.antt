use Rattle.std.proofs.Common.{◌+◌, ℕ, length, ap, ap₂, subst, ◌∙◌, sym, arith}
use Rattle.std.specs.Prelude.{All}
use Rattle.std.specs.List.{list_all, zip}
use Rattle.lang_monitor.specs.Candidates.{candidates_of}
use Rattle.logic_wp.specs.Expressible.{is_expressible}
use Rattle.plan_candidates.proofs.SomeOf.{some_pass}
use Rattle.plan_claims.proofs.Backed.{Laws}
use Rattle.plan_count.specs.Questions.{MayAskQuestion}
use Rattle.report_tally.specs.CountedReports.{owed_questions}
use Rattle.report_tally.specs.inner.Checks.{IsFirstUnanswered}
use Rattle.report_tally.proofs.Accepted.{counted_accepted}
use Rattle.report_tally.proofs.AskedQuestions.{questions_askable}
use Rattle.report_tally.proofs.Verdicts.{question_open, questions_answered}
use Rattle.report_tally.proofs.checking.recheck_answers.Goals as goal

pub owed_questions-requires : goal.owed_questions-requires
owed_questions-requires c =
    omega (arith, ap {B = ℕ} length c.items.ensures, c.requires.is.counted.many, c.requires.is.plan.kinds, c.blocks-blocks.ensures.rule.few_conditions)

pub first_unanswered-requires-clause-kept : goal.first_unanswered-requires-clause-kept
first_unanswered-requires-clause-kept c =
    ap (list_all is_expressible) c.items-kept.ensures
    ∙ some_pass is_expressible c.args.report.now.plan.kept (candidates_of c.args.monitor.now) c.requires.is.plan.kept c.candidates_have_formulas.ensures

pub first_unanswered-requires-clause-questions : goal.first_unanswered-requires-clause-questions
first_unanswered-requires-clause-questions c =
    let monitor = c.args.monitor.now in
    let report = c.args.report.now in
    subst (All (MayAskQuestion monitor)) (sym (c.deref.ensures.value ∙ c.in_ok-questions.ensures ∙ ap (owed_questions monitor report.plan) c.items.ensures))
    (questions_askable monitor report.plan report.counted c.requires.is.counted)

pub returns-in-Some : goal.returns-in-Some
returns-in-Some c =
    let monitor = c.args.monitor.now in
    let report = c.args.report.now in
    let kept = c.items-kept.result.now in
    let answers = c.items-answers.result.now in
    question_open monitor report kept c.deref.result.now answers (length c.items-proofs.result.now) c.in-Some.place c.line_of.result c.items-kept.ensures
    (c.deref.ensures.value ∙ c.in_ok-questions.ensures ∙ ap (owed_questions monitor report.plan) c.items.ensures) c.items-answers.ensures c.requires.sight c.requires.proofs
    (ap {B = ℕ} length c.items-proofs.ensures) c.line_of.ensures (subst (IsFirstUnanswered monitor kept (zip c.deref.result.now answers)) c.in-Some.is c.in_ok-place.ensures.first)

pub returns : goal.returns
returns c =
    let monitor = c.args.monitor.now in
    let report = c.args.report.now in
    let kept = c.items-kept.result.now in
    let answers = c.items-answers.result.now in
    let laws : Laws = record {
      refuted_is_false = c.refuted_formula_is_false.ensures;
      refuted_is_valid = c.refuted_query_is_valid.ensures;
    } in
    let answered =
    questions_answered monitor report kept c.deref.result.now answers c.items-kept.ensures
    (c.deref.ensures.value ∙ c.in_ok-questions.ensures ∙ ap (owed_questions monitor report.plan) c.items.ensures) c.items-answers.ensures
    (subst (IsFirstUnanswered monitor kept (zip c.deref.result.now answers)) c.in-None.is c.in_ok-place.ensures.first) in (
      counted_accepted laws c.answers_count.ensures c.counting_applies.ensures.plan monitor report c.blocks-blocks.ensures.rule c.requires.is c.requires.sight c.requires.proofs answered,
      ap₂ (λ (a b : ℕ). a + b) (ap {B = ℕ} length c.items-proofs.ensures) (ap {B = ℕ} length c.items-answers.ensures),
    )
