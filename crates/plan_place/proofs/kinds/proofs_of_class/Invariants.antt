use Rattle.std.specs.Prelude.{map}
use Rattle.std.specs.List.{filter, range_with_len}
use Rattle.lang_monitor.specs.declared.claim.Claim.TheVariants as claims
use Rattle.plan_claims.specs.Backing.{AreProofs, waits_at}
use Rattle.plan_place.proofs.kinds.proofs_of_class.Given as goal

abbrev pub invariant-loop-index : goal.invariant-loop-index
invariant-loop-index l = AreProofs l.monitor l.kept
    (map (claims.One l.condition) (filter (waits_at l.monitor l.condition) (range_with_len 0 l.index))) l.proofs.items
