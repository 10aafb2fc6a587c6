use Rattle.plan_small.specs.inner.Smallness.{ArePlainUpTo}
use Rattle.plan_small.proofs.small.is_plain_block.Given as goal

abbrev pub invariant-loop-index : goal.invariant-loop-index
invariant-loop-index l = ArePlainUpTo l.monitor l.block l.index
