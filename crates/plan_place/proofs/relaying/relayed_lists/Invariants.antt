use Rattle.std.proofs.Common.{◌≡◌, map, take}
use Rattle.std.specs.List.{enumerate_from}
use Rattle.plan_place.specs.Relayed.{relayed_notes}
use Rattle.plan_place.proofs.relaying.relayed_lists.Given as goal

abbrev pub invariant-loop-index : goal.invariant-loop-index
invariant-loop-index l = l.made.items ≡ map (λ one. relayed_notes l.monitor l.kinds one.0 one.1) (enumerate_from 0 (take l.index l.lists))
