use Rattle.std.proofs.Common.{take}
use Rattle.plan_small.specs.inner.Smallness.{ArePlainToKeep}
use Rattle.plan_small.proofs.small.are_plain_to_keep.Given as goal

abbrev pub invariant-loop-candidate : goal.invariant-loop-candidate
invariant-loop-candidate l = ArePlainToKeep l.monitor l.block (take l.candidate-index l.all)
