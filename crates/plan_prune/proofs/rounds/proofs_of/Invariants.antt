use Rattle.plan_prune.specs.inner.Asking.{AreProofsBelow}
use Rattle.plan_prune.proofs.rounds.proofs_of.Given as goal

abbrev pub invariant-loop-block : goal.invariant-loop-block
invariant-loop-block l = AreProofsBelow l.monitor l.hyps l.candidate l.block l.proofs.items
