use Rattle.std.proofs.Common.{length, ap, refl, arith}
use Rattle.machine_events.specs.declared.event.Event.TheVariants as events
use Rattle.machine_implicit.specs.declared.place.Place.{Place}
use Rattle.machine_events.specs.declared.event.Stage.TheVariants.{Idle}
use Rattle.machine_explicit.specs.Machines.{Machine}
use Rattle.machine_explicit.specs.inner.Positions.{machine_of}
use Rattle.machine_explicit.proofs.Making.{begins, begins_not, one_place_made, lent_at, lent_place, position_within, event_keeps_machine}
use Rattle.machine_explicit.proofs.config.Config.begin.Goals as goal

pub returns-in_default : goal.returns-in_default
returns-in_default c =
    let i = c.self.inside in
    let none = rw c.deref.ensures.value at c.in_default.ensures in
    (refl, rw (← c.self.view_is) (begins_not i.monitor i.plan i.scripts i.state i.owner i.commits.items i.positions.items c.args.client (λ place at left. none place at)))

pub returns-then-place-calls : goal.returns-then-place-calls
returns-then-place-calls c =
    let i = c.self.inside in
    let here = rw c.deref.ensures.value at c.in-Some.ensures in (
      refl,
      rw (← c.self.view_is) (begins_not i.monitor i.plan i.scripts i.state i.owner i.commits.items i.positions.items c.args.client (λ place at left.
          let same = ap (λ (one : Place). one.past) (one_place_made i.positions.items c.args.client c.in-Some.place.now place Idle Idle here at) in
          omega (arith, c.if-place-calls.true, left, ap length c.calls.ensures.calls, same))),
    )

pub index_mut-requires : goal.index_mut-requires
index_mut-requires c = omega (arith, c.deref.ensures.len, position_within c.deref.result.now c.args.client c.in-Some.place.now Idle c.in-Some.ensures)

pub invariant_of-self : goal.invariant_of-self
invariant_of-self c =
    let i = c.self.inside in
    let one = c.index_mut.result.now in
    let found = rw c.deref.ensures.value at c.in-Some.ensures in
    let here = lent_at i.positions.items c.args.client c.in-Some.place.now Idle one found c.index_mut.ensures.value in
    let same = ap (λ (place : Place). place.past) (lent_place i.positions.items c.args.client c.in-Some.place.now Idle one found c.index_mut.ensures.value) in
    let before = machine_of i.monitor i.plan i.scripts i.state i.owner i.commits.items i.positions.items in (
      event_keeps_machine (events.Begin c.args.client) before _ c.self.invariant.0
          (begins i.monitor i.plan i.scripts i.state i.owner i.commits.items i.positions.items c.args.client one.place here (omega (arith, c.if-place-calls.false, ap length c.calls.ensures.calls, same))),
      c.self.invariant.1,
    )

pub returns : goal.returns
returns c =
    let i = c.self.inside in
    let one = c.index_mut.result.now in
    let found = rw c.deref.ensures.value at c.in-Some.ensures in
    let here = lent_at i.positions.items c.args.client c.in-Some.place.now Idle one found c.index_mut.ensures.value in
    let same = ap (λ (place : Place). place.past) (lent_place i.positions.items c.args.client c.in-Some.place.now Idle one found c.index_mut.ensures.value) in (
      ap (λ (m : Machine). m.system) c.self.view_is,
      rw (← c.self.view_is)
          (begins i.monitor i.plan i.scripts i.state i.owner i.commits.items i.positions.items c.args.client one.place here (omega (arith, c.if-place-calls.false, ap length c.calls.ensures.calls, same))),
    )
