use Rattle.std.proofs.Common.{length}
use Rattle.plan_prune.specs.inner.Pruning.{IsLeft}
use Rattle.plan_prune.proofs.pruning.pruned.Given as goal

abbrev pub invariant-loop-kept : goal.invariant-loop-kept
invariant-loop-kept l = IsLeft l.monitor l.kept.items

abbrev pub decreases-loop-kept : goal.decreases-loop-kept
decreases-loop-kept l = length l.kept.items
