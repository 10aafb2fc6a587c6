use Rattle.std.proofs.Common.{map, ap, ◌≡◌, ℕ, true, arith, Some}
use Rattle.machine_events.specs.declared.event.Event.TheVariants as events
use Rattle.machine_events.specs.Configurations.{StandsAt}
use Rattle.machine_events.specs.declared.event.Stage.TheVariants.{Waiting, Woken, Notifying}
use Rattle.machine_events.specs.Events.{fires}
use Rattle.machine_implicit.specs.declared.place.Place.{Place}
use Rattle.machine_explicit.specs.Machines.{Machine}
use Rattle.machine_explicit.specs.inner.Waiting.{IsComing}
use Rattle.machine_explicit.specs.inner.Positions.{machine_of, standing_of}
use Rattle.machine_explicit.proofs.Making.{position_within, event_keeps_machine}
use Rattle.machine_explicit.proofs.Making.{lent_at, lent_place}
use Rattle.machine_explicit.proofs.MakingEvents.{waiting_made}
use Rattle.machine_explicit.proofs.MakingWakes.{coming_made, next_within, signals, still_next}
use Rattle.machine_explicit.proofs.config.Config.wake_one.Goals as goal

pub index_mut-requires : goal.index_mut-requires
index_mut-requires c =
    let i = c.self.inside in
    let stands : (place : Place) × StandsAt (map (standing_of i.plan) i.positions.items) c.args.target place (Waiting c.args.next.note.condition) = rw (← c.self.view_is) at c.requires.waits in
    omega (arith, i.positions.ok.0, position_within i.positions.items c.args.target stands.0 (Waiting c.args.next.note.condition) (waiting_made i.plan i.positions.items c.args.target stands.0 c.args.next.note.condition stands.1))

pub index_mut-requires-2 : goal.index_mut-requires-2
index_mut-requires-2 c =
    let i = c.self.inside in
    let coming : IsComing (machine_of i.monitor i.plan i.scripts i.state i.owner i.commits.items i.positions.items) c.args.client c.args.next = rw (← c.self.view_is) at c.requires.next in
    let here = coming_made i.monitor i.plan i.scripts i.state i.owner i.commits.items i.positions.items c.args.client c.args.next coming in
    omega (arith, i.positions.ok.0, next_within i.plan i.positions.items c.args.client c.args.next here)

pub invariant_of-self : goal.invariant_of-self
invariant_of-self c =
    let i = c.self.inside in
    let coming : IsComing (machine_of i.monitor i.plan i.scripts i.state i.owner i.commits.items i.positions.items) c.args.client c.args.next = rw (← c.self.view_is) at c.requires.next in
    let here = coming_made i.monitor i.plan i.scripts i.state i.owner i.commits.items i.positions.items c.args.client c.args.next coming in
    let stands : (place : Place) × StandsAt (map (standing_of i.plan) i.positions.items) c.args.target place (Waiting c.args.next.note.condition) = rw (← c.self.view_is) at c.requires.waits in
    let waits = lent_at i.positions.items c.args.target stands.0 (Waiting c.args.next.note.condition) c.index_mut.result.now (waiting_made i.plan i.positions.items c.args.target stands.0 c.args.next.note.condition stands.1) c.index_mut.ensures.value in
    let fired : fires (record { monitor = i.monitor; plan = i.plan; clients = i.scripts }) i.state c.args.next.note ≡ true = rw (← c.self.view_is) at c.requires.fires in
    let same = lent_place _ c.args.client here.place (Notifying here.to_come) c.index_mut-2.result.now (still_next i.plan i.positions.items c.args.client c.args.target c.index_mut.result.now.place c.args.next.note.condition c.args.next
    (record { place = c.index_mut.result.now.place; stage = Woken c.args.next.note.condition }) here waits) c.index_mut-2.ensures.value in
    let before = machine_of i.monitor i.plan i.scripts i.state i.owner i.commits.items i.positions.items in
    rw (← same) (
      event_keeps_machine (events.Notify c.args.client (Some c.args.target)) before _ c.self.invariant.0 (signals i.monitor i.plan i.scripts i.state i.owner i.commits.items i.positions.items c.args.client c.args.target c.index_mut.result.now.place c.args.next here fired c.requires.one waits),
      c.self.invariant.1,
    )

pub returns : goal.returns
returns c =
    let i = c.self.inside in
    let coming : IsComing (machine_of i.monitor i.plan i.scripts i.state i.owner i.commits.items i.positions.items) c.args.client c.args.next = rw (← c.self.view_is) at c.requires.next in
    let here = coming_made i.monitor i.plan i.scripts i.state i.owner i.commits.items i.positions.items c.args.client c.args.next coming in
    let stands : (place : Place) × StandsAt (map (standing_of i.plan) i.positions.items) c.args.target place (Waiting c.args.next.note.condition) = rw (← c.self.view_is) at c.requires.waits in
    let waits = lent_at i.positions.items c.args.target stands.0 (Waiting c.args.next.note.condition) c.index_mut.result.now (waiting_made i.plan i.positions.items c.args.target stands.0 c.args.next.note.condition stands.1) c.index_mut.ensures.value in
    let fired : fires (record { monitor = i.monitor; plan = i.plan; clients = i.scripts }) i.state c.args.next.note ≡ true = rw (← c.self.view_is) at c.requires.fires in
    let same = lent_place _ c.args.client here.place (Notifying here.to_come) c.index_mut-2.result.now (still_next i.plan i.positions.items c.args.client c.args.target c.index_mut.result.now.place c.args.next.note.condition c.args.next
    (record { place = c.index_mut.result.now.place; stage = Woken c.args.next.note.condition }) here waits) c.index_mut-2.ensures.value in
    (ap (λ (m : Machine). m.system) c.self.view_is, rw (← c.self.view_is, ← same) (signals i.monitor i.plan i.scripts i.state i.owner i.commits.items i.positions.items c.args.client c.args.target c.index_mut.result.now.place c.args.next here fired c.requires.one waits))
