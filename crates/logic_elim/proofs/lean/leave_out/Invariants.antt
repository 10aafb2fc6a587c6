use Rattle.std.proofs.Common.{◌≡◌, ◌++◌, drop, map, take}
use Rattle.logic_elim.specs.inner.Leaving.{without}
use Rattle.logic_elim.proofs.lean.leave_out.Given as goal

abbrev pub invariant-loop-i : goal.invariant-loop-i
invariant-loop-i l = l.later ≡ map (without l.number) (take l.i l.fn.later) ++ drop l.i l.fn.later
