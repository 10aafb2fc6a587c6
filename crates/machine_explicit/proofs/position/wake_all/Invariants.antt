use Rattle.std.proofs.Common.{◌≡◌, ◌++◌, map, take, drop}
use Rattle.machine_explicit.specs.inner.Positions.{waking_position}
use Rattle.machine_explicit.proofs.position.wake_all.Given as goal

abbrev pub invariant-loop-i : goal.invariant-loop-i
invariant-loop-i l = l.positions ≡ map (waking_position l.condition) (take l.i l.fn.positions) ++ drop l.i l.fn.positions
