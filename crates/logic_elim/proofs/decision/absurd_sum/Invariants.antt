use Rattle.std.proofs.Common.{take}
use Rattle.std.specs.List.{AllByRecursion as Each}
use Rattle.logic_elim.specs.Begins.{IsSane}
use Rattle.logic_elim.proofs.decision.absurd_sum.Given as goal

abbrev pub invariant-loop-i : goal.invariant-loop-i
invariant-loop-i l = Each IsSane (take l.i l.rows)
