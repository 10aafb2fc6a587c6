use Rattle.std.proofs.Common.{ap, arith}
use Rattle.machine_events.specs.declared.event.Event.TheVariants as events
use Rattle.machine_events.specs.declared.event.Stage.TheVariants.{Notifying}
use Rattle.machine_explicit.specs.Machines.{Machine}
use Rattle.machine_explicit.specs.inner.Positions.{machine_of}
use Rattle.machine_explicit.specs.inner.Waiting.{CanUnlock}
use Rattle.machine_explicit.proofs.Making.{position_within, event_keeps_machine}
use Rattle.machine_explicit.proofs.MakingEvents.{finished_made, unlocks, lent_finished}
use Rattle.machine_explicit.proofs.config.Config.release.Goals as goal

pub index_mut-requires : goal.index_mut-requires
index_mut-requires c =
    let i = c.self.inside in
    let can : CanUnlock (machine_of i.monitor i.plan i.scripts i.state i.owner i.commits.items i.positions.items) c.args.client = rw (← c.self.view_is) at c.requires in
    let done = finished_made i.plan i.positions.items c.args.client can.0 can.1 in
    omega (arith, i.positions.ok.0, position_within i.positions.items c.args.client can.0 (Notifying done.to_come) done.at)

pub invariant_of-self : goal.invariant_of-self
invariant_of-self c =
    let i = c.self.inside in
    let one = c.index_mut.result.now in
    let can : CanUnlock (machine_of i.monitor i.plan i.scripts i.state i.owner i.commits.items i.positions.items) c.args.client = rw (← c.self.view_is) at c.requires in
    let here = lent_finished i.plan i.positions.items c.args.client can.0 one (finished_made i.plan i.positions.items c.args.client can.0 can.1) c.index_mut.ensures.value in
    let before = machine_of i.monitor i.plan i.scripts i.state i.owner i.commits.items i.positions.items in (
      event_keeps_machine (events.Unlock c.args.client) before _ c.self.invariant.0
          (unlocks i.monitor i.plan i.scripts i.state i.owner i.commits.items i.positions.items c.args.client one.place here),
      c.self.invariant.1,
    )

pub returns : goal.returns
returns c =
    let i = c.self.inside in
    let one = c.index_mut.result.now in
    let can : CanUnlock (machine_of i.monitor i.plan i.scripts i.state i.owner i.commits.items i.positions.items) c.args.client = rw (← c.self.view_is) at c.requires in
    let here = lent_finished i.plan i.positions.items c.args.client can.0 one (finished_made i.plan i.positions.items c.args.client can.0 can.1) c.index_mut.ensures.value in (
      ap (λ (m : Machine). m.system) c.self.view_is,
      rw (← c.self.view_is) (unlocks i.monitor i.plan i.scripts i.state i.owner i.commits.items i.positions.items c.args.client one.place here),
    )
