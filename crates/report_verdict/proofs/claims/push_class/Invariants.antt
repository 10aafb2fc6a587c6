use Rattle.std.proofs.Common.{◌≡◌, ◌++◌, map}
use Rattle.std.specs.List.{filter, range_with_len}
use Rattle.plan_claims.specs.Backing.{waits_at}
use Rattle.lang_monitor.specs.declared.claim.Claim.TheVariants.{One}
use Rattle.report_verdict.proofs.claims.push_class.Given as goal

abbrev pub invariant-loop-index : goal.invariant-loop-index
invariant-loop-index l =
    l.claims.items ≡ l.fn.claims.items ++ map (One l.condition) (filter (waits_at l.monitor l.condition) (range_with_len 0 l.index))
