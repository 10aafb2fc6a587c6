use Rattle.std.proofs.Common.{◌≡◌, ◌++◌, take}
use Rattle.std.specs.List.{enumerate_from, flat_map}
use Rattle.plan_claims.specs.Backing.{kind_claims}
use Rattle.report_verdict.proofs.claims.push_enough.Given as goal

abbrev pub invariant-loop-index : goal.invariant-loop-index
invariant-loop-index l =
    l.claims.items ≡ l.fn.claims.items ++ flat_map (λ one. kind_claims l.monitor one.0 one.1) (enumerate_from 1 (take l.index l.kinds))
