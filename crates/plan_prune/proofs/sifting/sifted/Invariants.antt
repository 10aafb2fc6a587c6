use Rattle.std.proofs.Common.{length}
use Rattle.plan_prune.specs.inner.Pruning.{IsSieve}
use Rattle.plan_prune.proofs.sifting.sifted.Given as goal

abbrev pub invariant-loop-sieve : goal.invariant-loop-sieve
invariant-loop-sieve l = IsSieve l.monitor l.sieve.kept.items l.sieve.grounds.items

abbrev pub decreases-loop-sieve : goal.decreases-loop-sieve
decreases-loop-sieve l = length l.sieve.kept.items
