use Rattle.std.proofs.Common.{sym, ◌∙◌}
use Rattle.machine_events.specs.declared.event.Stage.TheVariants.{Inside}
use Rattle.machine_explicit.proofs.Making.{position_stands}
use Rattle.machine_explicit.proofs.MakingEvents.{left_here, call_here, guard_at, tries_here, inside_made}
use Rattle.machine_explicit.proofs.config.Config.test.Goals as goal

pub returns-in_default : goal.returns-in_default
returns-in_default c =
    let i = c.self.inside in
    let none = rw c.deref.ensures.value at c.in_default.ensures in
    rw (← c.self.view_is) (λ within. none within.0 (inside_made i.plan i.positions.items c.args.client within.0 within.1))

pub bounds-calls-place : goal.bounds-calls-place
bounds-calls-place c =
    let i = c.self.inside in
    let here = rw c.deref.ensures.value at c.in-Some.ensures in
    left_here i.monitor i.plan i.scripts i.state i.owner i.commits.items i.positions.items c.args.client c.in-Some.place.now c.calls.result.now c.self.invariant.0 here c.calls.ensures.calls

pub guard_of_call-requires-clause-call : goal.guard_of_call-requires-clause-call
guard_of_call-requires-clause-call c =
    let i = c.self.inside in
    let place = c.in-Some.place.now in
    let found = rw c.deref.ensures.value at c.in-Some.ensures in
    let here = call_here i.monitor i.plan i.scripts i.state i.owner i.commits.items i.positions.items c.args.client place c.calls.result.now c.index-calls-place.result c.self.invariant.0 found c.calls.ensures.calls c.index-calls-place.is in
    here.fit

pub guard_of_call-requires-clause-place : goal.guard_of_call-requires-clause-place
guard_of_call-requires-clause-place c =
    let i = c.self.inside in
    let place = c.in-Some.place.now in
    let found = rw c.deref.ensures.value at c.in-Some.ensures in
    let here = call_here i.monitor i.plan i.scripts i.state i.owner i.commits.items i.positions.items c.args.client place c.calls.result.now c.index-calls-place.result c.self.invariant.0 found c.calls.ensures.calls c.index-calls-place.is in
    here.place_fits

pub returns-then-guard_of_call : goal.returns-then-guard_of_call
returns-then-guard_of_call c =
    let i = c.self.inside in
    let place = c.in-Some.place.now in
    let found = rw c.deref.ensures.value at c.in-Some.ensures in
    let here = call_here i.monitor i.plan i.scripts i.state i.owner i.commits.items i.positions.items c.args.client place c.calls.result.now c.index-calls-place.result c.self.invariant.0 found c.calls.ensures.calls c.index-calls-place.is in
    let guard = guard_at (record { monitor = i.monitor; plan = i.plan; clients = i.scripts }) i.state c.args.client place c.index-calls-place.result here.is in
    rw (← c.self.view_is) (place, position_stands i.plan i.positions.items c.args.client place Inside found, guard ∙ sym c.if-guard_of_call.ensures)

pub returns-then-is_first_try : goal.returns-then-is_first_try
returns-then-is_first_try c =
    let i = c.self.inside in
    let place = c.in-Some.place.now in
    let found = rw c.deref.ensures.value at c.in-Some.ensures in
    let here = call_here i.monitor i.plan i.scripts i.state i.owner i.commits.items i.positions.items c.args.client place c.calls.result.now c.index-calls-place.result c.self.invariant.0 found c.calls.ensures.calls c.index-calls-place.is in
    let guard = guard_at (record { monitor = i.monitor; plan = i.plan; clients = i.scripts }) i.state c.args.client place c.index-calls-place.result here.is in
    rw (← c.self.view_is) (
      place,
      position_stands i.plan i.positions.items c.args.client place Inside found,
      (guard ∙ sym c.if-guard_of_call.ensures, tries_here i.scripts c.args.client place c.index-calls-place.result here.is ∙ sym c.if-is_first_try.ensures),
    )

pub returns : goal.returns
returns c =
    let i = c.self.inside in
    let place = c.in-Some.place.now in
    let found = rw c.deref.ensures.value at c.in-Some.ensures in
    let here = call_here i.monitor i.plan i.scripts i.state i.owner i.commits.items i.positions.items c.args.client place c.calls.result.now c.index-calls-place.result c.self.invariant.0 found c.calls.ensures.calls c.index-calls-place.is in
    let guard = guard_at (record { monitor = i.monitor; plan = i.plan; clients = i.scripts }) i.state c.args.client place c.index-calls-place.result here.is in
    rw (← c.self.view_is) (
      place,
      position_stands i.plan i.positions.items c.args.client place Inside found,
      (guard ∙ sym c.if-guard_of_call.ensures, tries_here i.scripts c.args.client place c.index-calls-place.result here.is ∙ sym c.if-is_first_try.ensures),
    )
