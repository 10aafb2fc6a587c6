use Rattle.std.proofs.Common.{ap, sym, refl, arith}
use Rattle.machine_events.specs.declared.event.Event.TheVariants as events
use Rattle.machine_explicit.specs.Machines.{Machine}
use Rattle.machine_explicit.specs.inner.Positions.{machine_of}
use Rattle.machine_explicit.proofs.Making.{locks, locks_not, lent_ready, ready_within, event_keeps_machine, none_is}
use Rattle.machine_explicit.proofs.config.Config.lock.Goals as goal

pub returns-in_default : goal.returns-in_default
returns-in_default c =
    let i = c.self.inside in
    let none = rw c.deref.ensures.value at c.in_default.ensures in
    (refl, rw (← c.self.view_is) (locks_not i.monitor i.plan i.scripts i.state i.owner i.commits.items i.positions.items c.args.client (λ free place ready. none place ready)))

pub index_mut-requires : goal.index_mut-requires
index_mut-requires c = omega (arith, c.deref.ensures.len, ready_within c.deref.result.now c.args.client c.in-Some._place.now c.in-Some.ensures)

pub invariant_of-self : goal.invariant_of-self
invariant_of-self c =
    let i = c.self.inside in
    let one = c.index_mut.result.now in
    let here = lent_ready i.positions.items c.args.client c.in-Some._place.now one (rw c.deref.ensures.value at c.in-Some.ensures) c.index_mut.ensures.value in
    let before = machine_of i.monitor i.plan i.scripts i.state i.owner i.commits.items i.positions.items in (
      event_keeps_machine (events.Lock c.args.client) before _ c.self.invariant.0
          (locks i.monitor i.plan i.scripts i.state i.owner i.commits.items i.positions.items c.args.client one.place (none_is i.owner (sym c.if-is_some.ensures)) here),
      c.self.invariant.1,
    )

pub returns : goal.returns
returns c =
    let i = c.self.inside in
    let one = c.index_mut.result.now in
    let here = lent_ready i.positions.items c.args.client c.in-Some._place.now one (rw c.deref.ensures.value at c.in-Some.ensures) c.index_mut.ensures.value in (
      ap (λ (m : Machine). m.system) c.self.view_is,
      rw (← c.self.view_is)
          (locks i.monitor i.plan i.scripts i.state i.owner i.commits.items i.positions.items c.args.client one.place (none_is i.owner (sym c.if-is_some.ensures)) here),
    )
