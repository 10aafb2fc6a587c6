use Rattle.plan_prune.proofs.RoundSteps.{found_some, more_below}
use Rattle.plan_prune.proofs.rounds.proofs_of.Goals as goal

pub loop-block-preserved : goal.loop-block-preserved
loop-block-preserved c =
    rw c.in_ok-push.ensures.items
    (more_below c.args.monitor.now c.args.hyps.now c.args.candidate c.loop-block.block c.loop-block.proofs.items c.in-Some.proof c.loop-block.invariant
    (found_some c.args.monitor.now c.args.hyps.now c.args.candidate c.loop-block.block c.in_ok-proof.field-0 c.in-Some.proof c.in-Some.is c.in_ok-proof.ensures))
