use Rattle.std.proofs.Common.{length}
use Rattle.logic_elim.specs.inner.Leaving.{IsLeanSoFar}
use Rattle.logic_elim.proofs.lean.lean_chain.Given as goal

abbrev pub invariant-loop-combine : goal.invariant-loop-combine
invariant-loop-combine l = IsLeanSoFar l.first l.fn.combines.items l.left.items l.kept.items

abbrev pub decreases-loop-combine : goal.decreases-loop-combine
decreases-loop-combine l = length l.left.items
