use Rattle.std.proofs.Common.{inl, inr, sym, true≢false, ◌∙◌}
use Rattle.report_failures.proofs.failing.failure_by_row.Goals as goal

pub returns-then-not-has_row : goal.returns-then-not-has_row
returns-then-not-has_row c = inr (λ has. true≢false (sym (c.has_row-has_row.ensures.1 has) ∙ c.if-not-has_row.true), c.in_ok-claim_failure.ensures)

pub query_failure-requires-clause-question : goal.query_failure-requires-clause-question
query_failure-requires-clause-question c = c.requires.question (c.has_row-has_row.ensures.0 c.if-not-has_row.false)

pub returns : goal.returns
returns c = inl (c.has_row-has_row.ensures.0 c.if-not-has_row.false, c.in_ok-query_failure.ensures)
