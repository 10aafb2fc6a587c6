use Rattle.plan_why.specs.inner.Answering.{AreSpared}
use Rattle.plan_why.proofs.answering.answer_of.Given as goal

abbrev pub invariant-loop-index : goal.invariant-loop-index
invariant-loop-index l = AreSpared l.monitor l.plan l.thing l.index
