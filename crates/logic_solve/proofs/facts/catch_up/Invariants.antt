use Rattle.std.proofs.Common.{take}
use Rattle.logic_solve.specs.inner.Facts.{AreFacts, AreMore}
use Rattle.logic_solve.proofs.facts.catch_up.Given as goal

abbrev pub invariant-loop-i : goal.invariant-loop-i
invariant-loop-i l = record {
  are : AreFacts l.literals (take l.i l.literals) l.facts.literals.items l.facts.numbers.items;
  more : AreMore l.fn.facts l.facts;
}
