use Rattle.std.proofs.Common.{◌≡◌, take}
use Rattle.logic_linear.proofs.formula.+same_formula.Given as goal

abbrev pub invariant-same_parts-loop-i : goal.invariant-same_parts-loop-i
invariant-same_parts-loop-i l = take l.i l.a ≡ take l.i l.b
