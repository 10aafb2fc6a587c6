use Rattle.std.proofs.Common.{◌≡◌, drop}
use Rattle.logic_solve.specs.inner.Differences.{lower_vertex}
use Rattle.logic_solve.proofs.differences.lower_vertex.Given as goal

abbrev pub invariant-loop-term : goal.invariant-loop-term
invariant-loop-term l = lower_vertex (drop l.term-index l.terms) ≡ lower_vertex l.terms
