use Rattle.logic_solve.specs.inner.Paths.{IsReached, room}
use Rattle.logic_solve.proofs.paths.positive_cycle.Given as goal

abbrev pub invariant-loop-cycle : goal.invariant-loop-cycle
invariant-loop-cycle l = IsReached l.edges l.reached.items

abbrev pub decreases-loop-cycle : goal.decreases-loop-cycle
decreases-loop-cycle l = room l.edges l.reached.items
