use Rattle.std.proofs.Common.{All, subst, sym}
use Rattle.plan_why.specs.Things.{IsThingOf}
use Rattle.plan_why.proofs.Things.{gathered, things_there}
use Rattle.plan_why.proofs.listing.things_of.Goals as goal

pub returns-clause-things : goal.returns-clause-things
returns-clause-things c =
    gathered c.args.monitor.now c.args.plan.now c.items.result.now c.items-3.result.now c.items-2.result.now c.new-things.result.items c.push_all_notes.new.things.items c.push_broadcasts.new.things.items c.push_all_tests.new.things.items
    c.items.ensures c.items-2.ensures c.items-3.ensures c.new-things.ensures.items c.in_ok-push_all_notes.ensures c.in_ok-push_broadcasts.ensures c.in_ok-push_all_tests.ensures

pub returns-clause-each : goal.returns-clause-each
returns-clause-each c =
    let made = gathered c.args.monitor.now c.args.plan.now c.items.result.now c.items-3.result.now c.items-2.result.now c.new-things.result.items c.push_all_notes.new.things.items c.push_broadcasts.new.things.items c.push_all_tests.new.things.items c.items.ensures c.items-2.ensures c.items-3.ensures c.new-things.ensures.items c.in_ok-push_all_notes.ensures c.in_ok-push_broadcasts.ensures c.in_ok-push_all_tests.ensures in
    subst (All (IsThingOf c.args.monitor.now)) (sym made) (things_there c.args.monitor.now c.args.plan.now c.requires)
