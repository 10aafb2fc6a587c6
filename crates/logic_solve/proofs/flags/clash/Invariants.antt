use Rattle.std.proofs.Common.{take}
use Rattle.std.specs.List.{AllByRecursion as Each}
use Rattle.logic_solve.specs.inner.Flags.{AreClear, IsUnopposed}
use Rattle.logic_solve.proofs.flags.clash.Given as goal

abbrev pub invariant-loop-i : goal.invariant-loop-i
invariant-loop-i l = record {
  looked : Each (IsUnopposed l.literals) (take l.i l.literals);
  clear : AreClear l.literals l.clear.items;
}
