use Rattle.expresso_answers.proofs.Placed.{both_chosen, counted_chosen, placed_chosen, relayed_chosen}
use Rattle.expresso_answers.proofs.placement.plan_of.Goals as goal

pub returns-in-Placed : goal.returns-in-Placed
returns-in-Placed c = placed_chosen c.args.choice c.args.monitor.now c.in_ok-placed.placed.plan c.in-Placed.is c.in_ok-placed.ensures.placement

pub returns-in_ok-relayed-in-Relayed : goal.returns-in_ok-relayed-in-Relayed
returns-in_ok-relayed-in-Relayed c =
    let law = c.relayed_plans_are_lawful.ensures in
    relayed_chosen law.fits law.lawful law.omits c.args.choice c.args.monitor.now c.in_ok-placed.placed.plan c.in_ok-relayed-in-Relayed.relayed
    c.in-Relayed.is c.in_ok-placed.ensures.placement c.in_ok-relayed-in-Relayed.ensures.plan

pub returns-in_ok-counted-in-Counted : goal.returns-in_ok-counted-in-Counted
returns-in_ok-counted-in-Counted c =
    let counted = c.in_ok-counted-in-Counted.ensures in
    counted_chosen c.args.choice c.args.monitor.now c.in_ok-placed.placed.plan c.in_ok-counted-in-Counted.counted.plan c.in_ok-counted-in-Counted.counted.columns
    c.in-Counted.is c.in_ok-placed.ensures.placement counted.plan counted.counted counted.exact counted.backed counted.fits counted.lawful counted.omits

pub returns-in_ok-relayed-in-CountedAndRelayed : goal.returns-in_ok-relayed-in-CountedAndRelayed
returns-in_ok-relayed-in-CountedAndRelayed c =
    let counted = c.in_ok-counted-in-CountedAndRelayed.ensures in
    let relayed = c.in_ok-relayed-in-CountedAndRelayed.ensures in
    both_chosen c.args.choice c.args.monitor.now c.in_ok-placed.placed.plan c.in_ok-counted-in-CountedAndRelayed.counted.plan c.in_ok-relayed-in-CountedAndRelayed.relayed
    c.in_ok-counted-in-CountedAndRelayed.counted.columns c.in-CountedAndRelayed.is c.in_ok-placed.ensures.placement counted.plan counted.counted counted.exact counted.backed
    relayed.plan relayed.relayed relayed.fits relayed.lawful relayed.omits
