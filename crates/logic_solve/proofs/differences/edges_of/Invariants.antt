use Rattle.std.proofs.Common.{take}
use Rattle.logic_solve.specs.inner.Differences.{AreEdgesOf}
use Rattle.logic_solve.proofs.differences.edges_of.Given as goal

abbrev pub invariant-loop-i : goal.invariant-loop-i
invariant-loop-i l = AreEdgesOf l.literals (take l.i l.literals) l.edges.items
