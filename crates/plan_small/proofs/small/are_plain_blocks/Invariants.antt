use Rattle.plan_small.specs.inner.Smallness.{ArePlainBelow}
use Rattle.plan_small.proofs.small.are_plain_blocks.Given as goal

abbrev pub invariant-loop-block : goal.invariant-loop-block
invariant-loop-block l = ArePlainBelow l.monitor l.block
