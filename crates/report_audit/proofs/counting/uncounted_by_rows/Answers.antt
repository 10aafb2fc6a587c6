use Rattle.std.proofs.Common.{sym, ap, ◌∙◌}
use Rattle.std.proofs.lemmas.Bool.{true≢false}
use Rattle.plan_count.specs.declared.question.Question.TheVariants as questions
use Rattle.report_audit.proofs.Uncounted.{by_both, counted_first, rowless}
use Rattle.report_audit.proofs.counting.uncounted_by_rows.Goals as goal

pub returns-then-not-has_row : goal.returns-then-not-has_row
returns-then-not-has_row c =
    rowless c.args.monitor.now c.args.plan.now c.args.condition c.args.claim c.counts_question.result (λ has. true≢false (sym (c.has_row.ensures.1 has) ∙ c.if-not-has_row.true))
    (c.counts_question.ensures ∙ ap (questions.Counts c.args.condition 1) c.block_of.ensures)

pub unanswered_by-requires-clause-has : goal.unanswered_by-requires-clause-has
unanswered_by-requires-clause-has c = c.has_row.ensures.0 c.if-not-has_row.false

pub returns-in-None : goal.returns-in-None
returns-in-None c =
    counted_first c.args.monitor.now c.args.plan.now c.args.condition c.in_ok-unanswered_by.field-0 c.in-None.is (c.has_row.ensures.0 c.if-not-has_row.false) c.in_ok-unanswered_by.ensures

pub returns-in_ok-counted-in-Some : goal.returns-in_ok-counted-in-Some
returns-in_ok-counted-in-Some c =
    by_both c.args.monitor.now c.args.plan.now c.args.condition c.args.claim c.in_ok-unanswered_by.field-0 c.in-Some.question c.in_ok-counted-in-Some.counted c.unless.result c.in-Some.is
    (c.has_row.ensures.0 c.if-not-has_row.false) c.in_ok-unanswered_by.ensures c.in_ok-counted-in-Some.ensures c.unless.ensures
