use Rattle.std.proofs.Common.{◌≡◌, drop}
use Rattle.logic_solve.specs.inner.Differences.{upper_vertex}
use Rattle.logic_solve.proofs.differences.upper_vertex.Given as goal

abbrev pub invariant-loop-term : goal.invariant-loop-term
invariant-loop-term l = upper_vertex (drop l.term-index l.terms) ≡ upper_vertex l.terms
