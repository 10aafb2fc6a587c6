use Rattle.std.proofs.Common.{◌≡◌, take}
use Rattle.plan_candidates.specs.inner.Edges.{edge}
use Rattle.plan_candidates.proofs.edges.edge.Given as goal

abbrev pub invariant-loop-place : goal.invariant-loop-place
invariant-loop-place l = l.start.items ≡ take l.place (edge l.fields l.top)
