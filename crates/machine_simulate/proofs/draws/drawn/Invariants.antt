use Rattle.std.proofs.Common.{◌-◌, length}
use Rattle.machine_explicit.specs.Sections.{room_of}
use Rattle.machine_simulate.specs.Schedules.{generator_of}
use Rattle.machine_simulate.specs.inner.Turns.{DrawnSoFar}
use Rattle.machine_simulate.proofs.draws.drawn.Given as goal

abbrev pub invariant-loop-draws : goal.invariant-loop-draws
invariant-loop-draws l = DrawnSoFar (record { machine = l.fn.free; generator = generator_of l.fn.seed; left = l.fn.spurious }) l.free l.draws

abbrev pub decreases-loop-draws : goal.decreases-loop-draws
decreases-loop-draws l = room_of l.free - length l.free.log
