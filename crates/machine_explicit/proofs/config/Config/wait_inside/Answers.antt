use Rattle.std.proofs.Common.{ap, inl}
use Rattle.machine_events.specs.declared.event.Event.TheVariants as events
use Rattle.machine_explicit.specs.declared.config.Way.TheVariants as ways
use Rattle.machine_events.specs.declared.event.Stage.TheVariants.{Inside}
use Rattle.machine_explicit.specs.Machines.{Machine}
use Rattle.machine_explicit.specs.inner.Positions.{machine_of}
use Rattle.machine_explicit.specs.inner.Waiting.{Goes}
use Rattle.machine_explicit.proofs.Making.{event_keeps_machine, position_stands}
use Rattle.machine_explicit.proofs.MakingEvents.{goes_at, goes_within, left_here, call_here, waited_is, waits, waits_now}
use Rattle.machine_explicit.proofs.Stepping.{block_within}
use Rattle.machine_explicit.proofs.Waiters.{waits_on_one}
use Rattle.machine_explicit.proofs.config.Config.wait_inside.Goals as goal

pub bounds-calls-position : goal.bounds-calls-position
bounds-calls-position c =
    let i = c.self.inside in
    let one = c.index_mut-position.result.now in
    let goes : Goes (machine_of i.monitor i.plan i.scripts i.state i.owner i.commits.items i.positions.items) c.args.client ways.Waits = rw (← c.self.view_is) at c.requires in
    let here = goes_at i.monitor i.plan i.scripts i.state i.owner i.commits.items i.positions.items c.args.client one ways.Waits c.self.invariant.0 goes c.index_mut-position.ensures.value in
    left_here i.monitor i.plan i.scripts i.state i.owner i.commits.items i.positions.items c.args.client one.place c.calls.result.now c.self.invariant.0 here.at c.calls.ensures.calls

pub block_number-block-requires-clause-call : goal.block_number-block-requires-clause-call
block_number-block-requires-clause-call c =
    let i = c.self.inside in
    let one = c.index_mut-position.result.now in
    let goes : Goes (machine_of i.monitor i.plan i.scripts i.state i.owner i.commits.items i.positions.items) c.args.client ways.Waits = rw (← c.self.view_is) at c.requires in
    let here = goes_at i.monitor i.plan i.scripts i.state i.owner i.commits.items i.positions.items c.args.client one ways.Waits c.self.invariant.0 goes c.index_mut-position.ensures.value in
    let call = call_here i.monitor i.plan i.scripts i.state i.owner i.commits.items i.positions.items c.args.client one.place c.calls.result.now c.index-calls-position.result c.self.invariant.0 here.at c.calls.ensures.calls c.index-calls-position.is in
    call.fit

pub block_number-block-requires-clause-place : goal.block_number-block-requires-clause-place
block_number-block-requires-clause-place c =
    let i = c.self.inside in
    let one = c.index_mut-position.result.now in
    let goes : Goes (machine_of i.monitor i.plan i.scripts i.state i.owner i.commits.items i.positions.items) c.args.client ways.Waits = rw (← c.self.view_is) at c.requires in
    let here = goes_at i.monitor i.plan i.scripts i.state i.owner i.commits.items i.positions.items c.args.client one ways.Waits c.self.invariant.0 goes c.index_mut-position.ensures.value in
    let call = call_here i.monitor i.plan i.scripts i.state i.owner i.commits.items i.positions.items c.args.client one.place c.calls.result.now c.index-calls-position.result c.self.invariant.0 here.at c.calls.ensures.calls c.index-calls-position.is in
    call.place_fits

pub condition_of-condition-requires : goal.condition_of-condition-requires
condition_of-condition-requires c = block_within c.self.inside.monitor c.block_number-block.result _ c.block_number-block.ensures.fits

pub invariant_of-self : goal.invariant_of-self
invariant_of-self c =
    let i = c.self.inside in
    let one = c.index_mut-position.result.now in
    let goes : Goes (machine_of i.monitor i.plan i.scripts i.state i.owner i.commits.items i.positions.items) c.args.client ways.Waits = rw (← c.self.view_is) at c.requires in
    let here = goes_at i.monitor i.plan i.scripts i.state i.owner i.commits.items i.positions.items c.args.client one ways.Waits c.self.invariant.0 goes c.index_mut-position.ensures.value in
    let call = call_here i.monitor i.plan i.scripts i.state i.owner i.commits.items i.positions.items c.args.client one.place c.calls.result.now c.index-calls-position.result c.self.invariant.0 here.at c.calls.ensures.calls c.index-calls-position.is in
    let condition = waited_is (record { monitor = i.monitor; plan = i.plan; clients = i.scripts }) c.args.client one.place c.index-calls-position.result c.block_number-block.result c.condition_of-condition.result call.is c.block_number-block.ensures.number c.condition_of-condition.ensures in
    let event = waits i.monitor i.plan i.scripts i.state i.owner i.commits.items i.positions.items c.args.client one.place c.condition_of-condition.result here.at here.is.0 here.is.1 condition in
    let next = event_keeps_machine (events.Wait c.args.client) (machine_of i.monitor i.plan i.scripts i.state i.owner i.commits.items i.positions.items) _ c.self.invariant.0 (one.place, inl event) in
    (next, c.self.invariant.1)

pub returns-clause-waited : goal.returns-clause-waited
returns-clause-waited c =
    let i = c.self.inside in
    let one = c.index_mut-position.result.now in
    let goes : Goes (machine_of i.monitor i.plan i.scripts i.state i.owner i.commits.items i.positions.items) c.args.client ways.Waits = rw (← c.self.view_is) at c.requires in
    let here = goes_at i.monitor i.plan i.scripts i.state i.owner i.commits.items i.positions.items c.args.client one ways.Waits c.self.invariant.0 goes c.index_mut-position.ensures.value in
    let call = call_here i.monitor i.plan i.scripts i.state i.owner i.commits.items i.positions.items c.args.client one.place c.calls.result.now c.index-calls-position.result c.self.invariant.0 here.at c.calls.ensures.calls c.index-calls-position.is in
    let condition = waited_is (record { monitor = i.monitor; plan = i.plan; clients = i.scripts }) c.args.client one.place c.index-calls-position.result c.block_number-block.result c.condition_of-condition.result call.is c.block_number-block.ensures.number c.condition_of-condition.ensures in
    let event = waits i.monitor i.plan i.scripts i.state i.owner i.commits.items i.positions.items c.args.client one.place c.condition_of-condition.result here.at here.is.0 here.is.1 condition in
    (ap (λ (m : Machine). m.system) c.self.view_is, rw (← c.self.view_is) (one.place, event))

pub returns-clause-condition : goal.returns-clause-condition
returns-clause-condition c =
    let i = c.self.inside in
    let one = c.index_mut-position.result.now in
    let goes : Goes (machine_of i.monitor i.plan i.scripts i.state i.owner i.commits.items i.positions.items) c.args.client ways.Waits = rw (← c.self.view_is) at c.requires in
    let here = goes_at i.monitor i.plan i.scripts i.state i.owner i.commits.items i.positions.items c.args.client one ways.Waits c.self.invariant.0 goes c.index_mut-position.ensures.value in
    let call = call_here i.monitor i.plan i.scripts i.state i.owner i.commits.items i.positions.items c.args.client one.place c.calls.result.now c.index-calls-position.result c.self.invariant.0 here.at c.calls.ensures.calls c.index-calls-position.is in
    let condition = waited_is (record { monitor = i.monitor; plan = i.plan; clients = i.scripts }) c.args.client one.place c.index-calls-position.result c.block_number-block.result c.condition_of-condition.result call.is c.block_number-block.ensures.number c.condition_of-condition.ensures in
    let event = waits i.monitor i.plan i.scripts i.state i.owner i.commits.items i.positions.items c.args.client one.place c.condition_of-condition.result here.at here.is.0 here.is.1 condition in
    let next = event_keeps_machine (events.Wait c.args.client) (machine_of i.monitor i.plan i.scripts i.state i.owner i.commits.items i.positions.items) _ c.self.invariant.0 (one.place, inl event) in
    waits_on_one _ c.args.client one.place c.condition_of-condition.result next
    (waits_now i.plan i.positions.items c.args.client one.place c.condition_of-condition.result (position_stands i.plan i.positions.items c.args.client one.place Inside here.at))

pub returns-clause-rule : goal.returns-clause-rule
returns-clause-rule c =
    let i = c.self.inside in
    let one = c.index_mut-position.result.now in
    let goes : Goes (machine_of i.monitor i.plan i.scripts i.state i.owner i.commits.items i.positions.items) c.args.client ways.Waits = rw (← c.self.view_is) at c.requires in
    let here = goes_at i.monitor i.plan i.scripts i.state i.owner i.commits.items i.positions.items c.args.client one ways.Waits c.self.invariant.0 goes c.index_mut-position.ensures.value in
    let call = call_here i.monitor i.plan i.scripts i.state i.owner i.commits.items i.positions.items c.args.client one.place c.calls.result.now c.index-calls-position.result c.self.invariant.0 here.at c.calls.ensures.calls c.index-calls-position.is in
    let condition = waited_is (record { monitor = i.monitor; plan = i.plan; clients = i.scripts }) c.args.client one.place c.index-calls-position.result c.block_number-block.result c.condition_of-condition.result call.is c.block_number-block.ensures.number c.condition_of-condition.ensures in
    let event = waits i.monitor i.plan i.scripts i.state i.owner i.commits.items i.positions.items c.args.client one.place c.condition_of-condition.result here.at here.is.0 here.is.1 condition in
    let next = event_keeps_machine (events.Wait c.args.client) (machine_of i.monitor i.plan i.scripts i.state i.owner i.commits.items i.positions.items) _ c.self.invariant.0 (one.place, inl event) in
    next
