use Rattle.plan_counted.proofs.RelayedRest.{rest_facts}
use Rattle.plan_counted.proofs.relaying.relay_uncounted.Goals as goal

pub returns-clause-fits : goal.returns-clause-fits
returns-clause-fits c =
    (rest_facts c.mixed_plans_are_lawful.ensures c.counting_loses_no_wakeup.ensures.lawful c.relayed_plans_are_lawful.ensures.lawful c.relayed_plans_are_lawful.ensures.omits
    c.args.monitor.now c.args.placed.now c.args.counted.now.plan c.in_ok-relayed.relayed c.in_ok-plan.plan c.args.counted.now.columns c.items.result.now
    c.blocks-blocks.ensures.rule c.requires.fits c.requires.lawful c.requires.counted_fits c.requires.counted_lawful c.requires.counted_plan c.requires.counted_omits c.requires.broadcasts c.requires.many
    c.in_ok-relayed.ensures.plan c.in_ok-relayed.ensures.fits c.items.ensures c.in_ok-plan.ensures).fits

pub returns-clause-lawful : goal.returns-clause-lawful
returns-clause-lawful c =
    (rest_facts c.mixed_plans_are_lawful.ensures c.counting_loses_no_wakeup.ensures.lawful c.relayed_plans_are_lawful.ensures.lawful c.relayed_plans_are_lawful.ensures.omits
    c.args.monitor.now c.args.placed.now c.args.counted.now.plan c.in_ok-relayed.relayed c.in_ok-plan.plan c.args.counted.now.columns c.items.result.now
    c.blocks-blocks.ensures.rule c.requires.fits c.requires.lawful c.requires.counted_fits c.requires.counted_lawful c.requires.counted_plan c.requires.counted_omits c.requires.broadcasts c.requires.many
    c.in_ok-relayed.ensures.plan c.in_ok-relayed.ensures.fits c.items.ensures c.in_ok-plan.ensures).lawful

pub returns-clause-plan : goal.returns-clause-plan
returns-clause-plan c =
    (rest_facts c.mixed_plans_are_lawful.ensures c.counting_loses_no_wakeup.ensures.lawful c.relayed_plans_are_lawful.ensures.lawful c.relayed_plans_are_lawful.ensures.omits
    c.args.monitor.now c.args.placed.now c.args.counted.now.plan c.in_ok-relayed.relayed c.in_ok-plan.plan c.args.counted.now.columns c.items.result.now
    c.blocks-blocks.ensures.rule c.requires.fits c.requires.lawful c.requires.counted_fits c.requires.counted_lawful c.requires.counted_plan c.requires.counted_omits c.requires.broadcasts c.requires.many
    c.in_ok-relayed.ensures.plan c.in_ok-relayed.ensures.fits c.items.ensures c.in_ok-plan.ensures).made

pub returns-clause-relayed : goal.returns-clause-relayed
returns-clause-relayed c =
    (rest_facts c.mixed_plans_are_lawful.ensures c.counting_loses_no_wakeup.ensures.lawful c.relayed_plans_are_lawful.ensures.lawful c.relayed_plans_are_lawful.ensures.omits
    c.args.monitor.now c.args.placed.now c.args.counted.now.plan c.in_ok-relayed.relayed c.in_ok-plan.plan c.args.counted.now.columns c.items.result.now
    c.blocks-blocks.ensures.rule c.requires.fits c.requires.lawful c.requires.counted_fits c.requires.counted_lawful c.requires.counted_plan c.requires.counted_omits c.requires.broadcasts c.requires.many
    c.in_ok-relayed.ensures.plan c.in_ok-relayed.ensures.fits c.items.ensures c.in_ok-plan.ensures).relayed

pub returns-clause-omits : goal.returns-clause-omits
returns-clause-omits c =
    (rest_facts c.mixed_plans_are_lawful.ensures c.counting_loses_no_wakeup.ensures.lawful c.relayed_plans_are_lawful.ensures.lawful c.relayed_plans_are_lawful.ensures.omits
    c.args.monitor.now c.args.placed.now c.args.counted.now.plan c.in_ok-relayed.relayed c.in_ok-plan.plan c.args.counted.now.columns c.items.result.now
    c.blocks-blocks.ensures.rule c.requires.fits c.requires.lawful c.requires.counted_fits c.requires.counted_lawful c.requires.counted_plan c.requires.counted_omits c.requires.broadcasts c.requires.many
    c.in_ok-relayed.ensures.plan c.in_ok-relayed.ensures.fits c.items.ensures c.in_ok-plan.ensures).omits
