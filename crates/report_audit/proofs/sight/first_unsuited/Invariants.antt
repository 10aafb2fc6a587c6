use Rattle.std.proofs.Common.{ℕ, ◌≤◌}
use Rattle.report_audit.specs.Findings.{IsSuited}
use Rattle.report_audit.proofs.sight.first_unsuited.Given as goal

abbrev pub invariant-loop-index : goal.invariant-loop-index
invariant-loop-index l = (other : ℕ) → 1 ≤ other → other ≤ l.index → IsSuited l.monitor l.plan other
