use Rattle.std.proofs.Common.{take}
use Rattle.logic_elim.specs.Begins.{AreNumbered}
use Rattle.logic_elim.proofs.decision.numbered_rows.Given as goal

abbrev pub invariant-loop-i : goal.invariant-loop-i
invariant-loop-i l = AreNumbered l.rows (take l.i l.rows) l.kept.items
