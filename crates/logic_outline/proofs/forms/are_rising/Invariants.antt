use Rattle.std.proofs.Common.{◌≤◌}
use Rattle.logic_outline.proofs.FormLemmas.{RisesTo}
use Rattle.logic_outline.proofs.forms.are_rising.Given as goal

abbrev pub invariant-loop-i : goal.invariant-loop-i
invariant-loop-i l = record {
  low : 1 ≤ l.i;
  rises : RisesTo l.terms l.i;
}
