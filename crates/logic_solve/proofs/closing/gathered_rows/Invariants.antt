use Rattle.std.proofs.Common.{take}
use Rattle.logic_solve.specs.inner.Literals.{IsStartOf}
use Rattle.logic_solve.proofs.closing.gathered_rows.Given as goal

abbrev pub invariant-loop-i : goal.invariant-loop-i
invariant-loop-i l = IsStartOf l.literals (take l.i l.literals) l.kept
