use Rattle.std.proofs.Common.{◌≡◌, drop}
use Rattle.logic_solve.specs.inner.Paths.{height_at}
use Rattle.logic_solve.proofs.paths.height_of.Given as goal

abbrev pub invariant-loop-one : goal.invariant-loop-one
invariant-loop-one l = height_at (drop l.one-index l.reached) l.vertex ≡ height_at l.reached l.vertex
