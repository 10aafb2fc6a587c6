use Rattle.std.proofs.Common.{◌-◌, length}
use Rattle.machine_explicit.specs.Sections.{room_of}
use Rattle.machine_simulate.specs.inner.Turns.{RoundsSoFar}
use Rattle.machine_simulate.proofs.by_rounds.rounds.Given as goal

abbrev pub invariant-loop-free : goal.invariant-loop-free
invariant-loop-free l = RoundsSoFar l.asked l.fn.free l.free

abbrev pub decreases-loop-free : goal.decreases-loop-free
decreases-loop-free l = room_of l.free - length l.free.log
