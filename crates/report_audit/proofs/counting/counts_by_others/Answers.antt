use Rattle.std.proofs.Common.{◌+◌, sym, ◌∙◌, arith}
use Rattle.std.proofs.lemmas.Bool.{true≢false}
use Rattle.report_audit.proofs.Uncounted.{counted_by, rows_end, rows_missing, rows_more, rows_start}
use Rattle.report_audit.proofs.counting.counts_by_others.Goals as goal

pub loop-before-init : goal.loop-before-init
loop-before-init c = rows_start c.args.monitor.now c.args.plan.now c.args.condition

pub returns-then-not-has_row : goal.returns-then-not-has_row
returns-then-not-has_row c =
    rows_missing c.args.monitor.now c.args.plan.now c.args.condition c.loop-before.before (λ has. true≢false (sym (c.has_row.ensures.1 has) ∙ c.if-not-has_row.true)) c.loop-before.invariant

pub unanswered_by-requires-clause-has : goal.unanswered_by-requires-clause-has
unanswered_by-requires-clause-has c = c.has_row.ensures.0 c.if-not-has_row.false

pub returns-in-None : goal.returns-in-None
returns-in-None c =
    counted_by c.args.monitor.now c.args.plan.now c.args.condition (c.loop-before.before + 1) c.in_ok-unanswered_by.field-0 c.in-None.is (c.has_row.ensures.0 c.if-not-has_row.false)
    (omega (arith, c.loop-before-test.true)) c.in_ok-unanswered_by.ensures

pub loop-before-preserved : goal.loop-before-preserved
loop-before-preserved c =
    rows_more c.args.monitor.now c.args.plan.now c.args.condition c.loop-before.before c.in_ok-unanswered_by.field-0 c.in-Some.field-0 c.in-Some.is c.in_ok-unanswered_by.ensures c.loop-before.invariant

pub returns : goal.returns
returns c = rows_end c.args.monitor.now c.args.plan.now c.args.condition c.loop-before.before (omega (arith, c.loop-before-test.false)) c.loop-before.invariant
