use Rattle.std.proofs.Common.{◌≡◌, take}
use Rattle.plan_place.specs.Relayed.{relayed_kinds}
use Rattle.plan_place.proofs.relaying.relayed_kinds.Given as goal

abbrev pub invariant-loop-index : goal.invariant-loop-index
invariant-loop-index l = l.made.items ≡ relayed_kinds l.monitor (take l.index l.kinds)
