use Rattle.lang_monitor.specs.Queries.{one_enough_query}
use Rattle.plan_count.specs.Questions.{question_query}
use Rattle.plan_count.specs.declared.question.Question.TheVariants as questions
use Rattle.plan_needs.proofs.ByRows.{none_there, with_first, without_first}
use Rattle.plan_needs.proofs.answering.kind_failure.Goals as goal

pub returns-then-not-has_row : goal.returns-then-not-has_row
returns-then-not-has_row c =
    without_first c.args.monitor.now c.args.condition (question_query c.args.monitor.now c.args.kept.now (questions.Counts c.args.condition 1 c.args.block))
    (one_enough_query c.args.monitor.now c.args.kept.now c.args.condition c.args.block) c.in_ok-claim_failure.field-0
    (none_there c.args.monitor.now c.args.condition c.has_row-has_row.result c.if-not-has_row.true c.has_row-has_row.ensures) c.in_ok-claim_failure.ensures

pub returns : goal.returns
returns c =
    with_first c.args.monitor.now c.args.condition (question_query c.args.monitor.now c.args.kept.now (questions.Counts c.args.condition 1 c.args.block))
    (one_enough_query c.args.monitor.now c.args.kept.now c.args.condition c.args.block) c.in_ok-question_failure.field-0
    (c.has_row-has_row.ensures.0 c.if-not-has_row.false) c.in_ok-question_failure.ensures
