use Rattle.std.proofs.Common.{◌≡◌, ◌∷◌, take}
use Rattle.logic_solve.proofs.paths.lengthened.Given as goal

abbrev pub invariant-loop-one : goal.invariant-loop-one
invariant-loop-one l = l.all.items ≡ l.fn.edge ∷ take l.one-index l.path
