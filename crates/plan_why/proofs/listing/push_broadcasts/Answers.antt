use Rattle.std.proofs.Common.{◌+◌, arith}
use Rattle.machine_events.specs.declared.plan.CondKind.TheVariants as kinds
use Rattle.plan_why.specs.Things.{broadcast_of_condition}
use Rattle.plan_why.proofs.Things.{listed_all, listed_more}
use Rattle.plan_why.proofs.listing.push_broadcasts.Goals as goal

pub loop-index-preserved : goal.loop-index-preserved
loop-index-preserved c =
    listed_more (broadcast_of_condition c.args.monitor.now) 1 c.loop-index.index (c.loop-index.index + 1) c.args.kinds.now kinds.Signal c.args.things.now.items c.loop-index.things.items c.push_broadcast.new.things.items c.loop-index-test.true (omega arith) c.loop-index.invariant
    c.in_ok-push_broadcast.ensures

pub returns : goal.returns
returns c = listed_all (broadcast_of_condition c.args.monitor.now) 1 c.loop-index.index c.args.kinds.now c.args.things.now.items c.loop-index.things.items c.loop-index-test.false c.loop-index.invariant
