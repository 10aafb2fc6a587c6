use Rattle.plan_needs.specs.inner.Asked.{AreSparedBefore}
use Rattle.plan_needs.proofs.answering.answer_of.Given as goal

abbrev pub invariant-loop-index : goal.invariant-loop-index
invariant-loop-index l = AreSparedBefore l.monitor l.counted l.thing l.index
