use Rattle.plan_prune.proofs.RoundSteps.{found_none}
use Rattle.plan_prune.proofs.rounds.proof_of.Goals as goal

pub returns-in-None : goal.returns-in-None
returns-in-None c =
    found_none c.args.monitor.now c.args.hyps.now c.args.candidate c.args.block c.in_ok-query.query c.in_ok-certificate_of.field-0 c.in_ok-query.ensures.made c.in-None.is c.in_ok-certificate_of.ensures.decided
