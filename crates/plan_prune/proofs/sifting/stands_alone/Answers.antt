use Rattle.plan_prune.proofs.RoundSteps.{askable_one}
use Rattle.plan_prune.proofs.sifting.stands_alone.Goals as goal

pub keeps-requires-clause-kept : goal.keeps-requires-clause-kept
keeps-requires-clause-kept c = rw (c.deref.ensures.value, c.in_ok-alone.ensures.items) (askable_one c.args.candidate c.requires.candidate).expressible
