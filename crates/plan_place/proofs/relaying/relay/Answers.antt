use Rattle.std.proofs.Common.{sym, subst}
use Rattle.machine_events.specs.Plans.{FitsPlan, IsLawful}
use Rattle.plan_place.proofs.relaying.relay.Goals as goal

pub returns-clause-fits : goal.returns-clause-fits
returns-clause-fits c =
    let monitor = c.args.monitor.now in
    subst (FitsPlan monitor) (sym c.in_ok-relayed.ensures) (c.relayed_plans_are_lawful.ensures.fits monitor c.args.plan.now c.blocks-blocks.ensures.rule c.requires)

pub returns-clause-lawful : goal.returns-clause-lawful
returns-clause-lawful c = λ lawful.
    let monitor = c.args.monitor.now in
    subst (IsLawful monitor) (sym c.in_ok-relayed.ensures) (c.relayed_plans_are_lawful.ensures.lawful monitor c.args.plan.now c.blocks-blocks.ensures.rule c.requires lawful)
