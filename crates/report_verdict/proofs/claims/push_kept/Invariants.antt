use Rattle.std.proofs.Common.{◌≡◌, ◌++◌, take}
use Rattle.plan_candidates.specs.Claims.{keeps_claims}
use Rattle.report_verdict.proofs.claims.push_kept.Given as goal

abbrev pub invariant-loop-candidate : goal.invariant-loop-candidate
invariant-loop-candidate l = l.claims.items ≡ l.fn.claims.items ++ keeps_claims l.monitor (take l.candidate-index l.kept)
