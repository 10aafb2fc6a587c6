use Rattle.plan_prune.proofs.RoundSteps.{askable_at}
use Rattle.plan_prune.proofs.rounds.next_round.Goals as goal

pub keep_if_found-requires-clause-candidate : goal.keep_if_found-requires-clause-candidate
keep_if_found-requires-clause-candidate c = askable_at c.args.kept.now c.loop-candidate.candidate-index _ c.loop-candidate-test.true c.requires
