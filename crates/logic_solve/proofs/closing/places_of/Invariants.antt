use Rattle.std.proofs.Common.{◌≡◌, take, []}
use Rattle.logic_solve.specs.inner.Literals.{noted, terms_in_literals}
use Rattle.logic_solve.proofs.closing.places_of.Given as goal

abbrev pub invariant-loop-literal : goal.invariant-loop-literal
invariant-loop-literal l = l.places.items ≡ noted [] (terms_in_literals (take l.literal-index l.literals))
