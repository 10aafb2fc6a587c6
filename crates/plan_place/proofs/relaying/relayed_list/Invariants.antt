use Rattle.std.proofs.Common.{◌≡◌}
use Rattle.plan_place.proofs.NotesOn.{made}
use Rattle.plan_place.proofs.RelayedPlans.{made_on}
use Rattle.plan_place.proofs.relaying.relayed_list.Given as goal

abbrev pub invariant-loop-index : goal.invariant-loop-index
invariant-loop-index l = l.made.items ≡ made (made_on l.monitor l.kinds l.block l.notes) 1 l.index
