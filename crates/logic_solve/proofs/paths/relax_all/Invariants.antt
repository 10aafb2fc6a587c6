use Rattle.std.proofs.Common.{take}
use Rattle.logic_solve.proofs.PathLemmas.{Going}
use Rattle.logic_solve.proofs.paths.relax_all.Given as goal

abbrev pub invariant-loop-i : goal.invariant-loop-i
invariant-loop-i l = Going l.edges (take l.i l.edges) l.initial.reached.items l.reached.items l.higher
