use Rattle.std.proofs.Common.{ap, refl, arith}
use Rattle.machine_events.specs.declared.event.Event.TheVariants as events
use Rattle.machine_events.specs.declared.event.Stage.TheVariants.{Waiting}
use Rattle.machine_explicit.specs.Machines.{Machine}
use Rattle.machine_explicit.specs.inner.Positions.{machine_of}
use Rattle.machine_explicit.proofs.Making.{lent_at, position_within, event_keeps_machine}
use Rattle.machine_explicit.proofs.MakingEvents.{wakens, wakens_not}
use Rattle.machine_explicit.proofs.config.Config.spurious.Goals as goal

pub returns-in_default : goal.returns-in_default
returns-in_default c =
    let i = c.self.inside in
    let none = rw c.deref.ensures.value at c.in_default.ensures in
    (refl, rw (← c.self.view_is) (wakens_not i.monitor i.plan i.scripts i.state i.owner i.commits.items i.positions.items c.args.client (λ place condition at. none place condition at)))

pub index_mut-requires : goal.index_mut-requires
index_mut-requires c = omega (arith, c.deref.ensures.len, position_within c.deref.result.now c.args.client c.in-Some._place.now (Waiting c.in-Some.condition) c.in-Some.ensures)

pub invariant_of-self : goal.invariant_of-self
invariant_of-self c =
    let i = c.self.inside in
    let one = c.index_mut.result.now in
    let here = lent_at i.positions.items c.args.client c.in-Some._place.now (Waiting c.in-Some.condition) one (rw c.deref.ensures.value at c.in-Some.ensures) c.index_mut.ensures.value in
    let before = machine_of i.monitor i.plan i.scripts i.state i.owner i.commits.items i.positions.items in (
      event_keeps_machine (events.Spurious c.args.client) before _ c.self.invariant.0
          (wakens i.monitor i.plan i.scripts i.state i.owner i.commits.items i.positions.items c.args.client one.place c.in-Some.condition here),
      c.self.invariant.1,
    )

pub returns : goal.returns
returns c =
    let i = c.self.inside in
    let one = c.index_mut.result.now in
    let here = lent_at i.positions.items c.args.client c.in-Some._place.now (Waiting c.in-Some.condition) one (rw c.deref.ensures.value at c.in-Some.ensures) c.index_mut.ensures.value in (
      ap (λ (m : Machine). m.system) c.self.view_is,
      rw (← c.self.view_is) (wakens i.monitor i.plan i.scripts i.state i.owner i.commits.items i.positions.items c.args.client one.place c.in-Some.condition here),
    )
