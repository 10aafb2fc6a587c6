use Rattle.std.proofs.Common.{◌≡◌, map, take}
use Rattle.logic_solve.specs.inner.Solving.{number_in}
use Rattle.logic_solve.proofs.solving.numbers_in.Given as goal

abbrev pub invariant-loop-place : goal.invariant-loop-place
invariant-loop-place l = l.numbers.items ≡ map (number_in l.reached) (take l.place-index l.places)
