use Rattle.std.proofs.Common.{[], ◌∷◌, subst}
use Rattle.plan_count.specs.Questions.{question_query}
use Rattle.plan_count.specs.declared.question.Question.TheVariants as questions
use Rattle.plan_why.specs.Failures.{IsFailureAmong}
use Rattle.plan_needs.proofs.Among.{among_first, among_later}
use Rattle.plan_needs.proofs.broadcasting.signal_failure_by.Goals as goal

pub returns-in-Some : goal.returns-in-Some
returns-in-Some c =
    let gives = question_query c.args.monitor.now c.args.kept.now (questions.Gives c.args.condition c.args.row c.args.block) in
    let first = question_query c.args.monitor.now c.args.kept.now (questions.First c.args.condition c.args.row c.args.block) in
    among_first c.args.monitor.now gives (first ∷ []) c.in-Some.failure (subst (IsFailureAmong c.args.monitor.now (gives ∷ [])) c.in-Some.is c.in_ok-failure.ensures)

pub returns-in_ok-question_failure-in-None : goal.returns-in_ok-question_failure-in-None
returns-in_ok-question_failure-in-None c =
    let gives = question_query c.args.monitor.now c.args.kept.now (questions.Gives c.args.condition c.args.row c.args.block) in
    let first = question_query c.args.monitor.now c.args.kept.now (questions.First c.args.condition c.args.row c.args.block) in
    among_later c.args.monitor.now gives (first ∷ []) c.in_ok-question_failure-in-None.field-0 (subst (IsFailureAmong c.args.monitor.now (gives ∷ [])) c.in-None.is c.in_ok-failure.ensures) c.in_ok-question_failure-in-None.ensures
