use Rattle.std.proofs.Common.{◌≡◌, false, take}
use Rattle.std.specs.List.{list_any}
use Rattle.machine_explicit.specs.inner.Positions.{position_waits}
use Rattle.machine_explicit.proofs.position.some_waits.Given as goal

abbrev pub invariant-loop-one : goal.invariant-loop-one
invariant-loop-one l = list_any (position_waits l.condition) (take l.one-index l.positions) ≡ false
