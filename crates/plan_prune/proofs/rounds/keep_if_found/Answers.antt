use Rattle.std.proofs.Common.{subst}
use Rattle.plan_prune.specs.inner.Asking.{AreFound}
use Rattle.plan_prune.proofs.RoundSteps.{turn_drops, turn_keeps}
use Rattle.plan_prune.proofs.rounds.keep_if_found.Goals as goal

pub returns-in-None : goal.returns-in-None
returns-in-None c = λ before round.
    turn_drops c.args.monitor.now c.args.hyps.now before c.args.round.now.kept.items c.args.round.now.proofs.items c.args.candidate
    (subst (AreFound c.args.monitor.now c.args.hyps.now c.args.candidate) c.in-None.is c.in_ok-proofs_of.ensures) round

pub returns-in_ok-keep-in-Some : goal.returns-in_ok-keep-in-Some
returns-in_ok-keep-in-Some c = λ before round.
    rw (c.in_ok-keep-in-Some.ensures.kept, c.in_ok-keep-in-Some.ensures.proofs)
    (turn_keeps c.args.monitor.now c.args.hyps.now before c.args.round.now.kept.items c.args.round.now.proofs.items c.in-Some.found c.args.candidate
    (subst (AreFound c.args.monitor.now c.args.hyps.now c.args.candidate) c.in-Some.is c.in_ok-proofs_of.ensures) round)
