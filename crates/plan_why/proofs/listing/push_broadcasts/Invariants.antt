use Rattle.std.proofs.Common.{◌≡◌, ◌++◌, take}
use Rattle.std.specs.List.{enumerate_from, flat_map}
use Rattle.plan_why.specs.Things.{broadcast_of_condition}
use Rattle.plan_why.proofs.listing.push_broadcasts.Given as goal

abbrev pub invariant-loop-index : goal.invariant-loop-index
invariant-loop-index l = l.things.items ≡ l.fn.things.items ++ flat_map (λ one. broadcast_of_condition l.monitor one.0 one.1) (enumerate_from 1 (take l.index l.kinds))
