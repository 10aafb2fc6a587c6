use Rattle.std.proofs.Common.{take}
use Rattle.plan_prune.specs.inner.Pruning.{IsRound}
use Rattle.plan_prune.proofs.rounds.next_round.Given as goal

abbrev pub invariant-loop-candidate : goal.invariant-loop-candidate
invariant-loop-candidate l = IsRound l.monitor l.kept (take l.candidate-index l.kept) l.round
