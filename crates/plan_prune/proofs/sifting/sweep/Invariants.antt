use Rattle.std.proofs.Common.{◌-◌, ◌≤◌, length}
use Rattle.plan_prune.specs.inner.Pruning.{IsSieve}
use Rattle.plan_prune.proofs.sifting.sweep.Given as goal

abbrev pub invariant-loop-at : goal.invariant-loop-at
invariant-loop-at l = record {
  sieve : IsSieve l.monitor l.kept.items l.grounds.items;
  fewer : length l.kept.items ≤ length l.fn.sieve.kept.items;
}

abbrev pub decreases-loop-at : goal.decreases-loop-at
decreases-loop-at l = length l.kept.items - l.at
