use Rattle.std.proofs.Common.{take}
use Rattle.logic_solve.specs.inner.Literals.{HaveNoAbsurd}
use Rattle.logic_solve.proofs.closing.absurd_sum.Given as goal

abbrev pub invariant-loop-i : goal.invariant-loop-i
invariant-loop-i l = HaveNoAbsurd (take l.i l.literals)
