use Rattle.std.proofs.Common.{◌≡◌, drop}
use Rattle.logic_solve.specs.inner.Paths.{path_at}
use Rattle.logic_solve.proofs.paths.path_of.Given as goal

abbrev pub invariant-loop-one : goal.invariant-loop-one
invariant-loop-one l = path_at (drop l.one-index l.reached) l.vertex ≡ path_at l.reached l.vertex
