use Rattle.std.proofs.Common.{◌≡◌, take}
use Rattle.std.specs.List.{flat_map}
use Rattle.logic_solve.specs.inner.Solving.{true_places}
use Rattle.logic_solve.proofs.solving.true_flags.Given as goal

abbrev pub invariant-loop-literal : goal.invariant-loop-literal
invariant-loop-literal l = l.flags.items ≡ flat_map true_places (take l.literal-index l.literals)
