use Rattle.std.proofs.Common.{ap, arith, None}
use Rattle.machine_events.specs.declared.event.Event.TheVariants as events
use Rattle.machine_events.specs.declared.event.Stage.TheVariants.{Notifying}
use Rattle.machine_explicit.specs.Machines.{Machine}
use Rattle.machine_explicit.specs.inner.Waiting.{IsComing, Passes}
use Rattle.machine_explicit.specs.inner.Positions.{machine_of}
use Rattle.machine_explicit.proofs.Making.{event_keeps_machine, lent_place}
use Rattle.machine_explicit.proofs.MakingWakes.{coming_made, next_within, passed}
use Rattle.machine_explicit.proofs.config.Config.pass.Goals as goal

pub index_mut-requires : goal.index_mut-requires
index_mut-requires c =
    let i = c.self.inside in
    let coming : IsComing (machine_of i.monitor i.plan i.scripts i.state i.owner i.commits.items i.positions.items) c.args.client c.args.next = rw (← c.self.view_is) at c.requires.next in
    let here = coming_made i.monitor i.plan i.scripts i.state i.owner i.commits.items i.positions.items c.args.client c.args.next coming in
    omega (arith, i.positions.ok.0, next_within i.plan i.positions.items c.args.client c.args.next here)

pub invariant_of-self : goal.invariant_of-self
invariant_of-self c =
    let i = c.self.inside in
    let coming : IsComing (machine_of i.monitor i.plan i.scripts i.state i.owner i.commits.items i.positions.items) c.args.client c.args.next = rw (← c.self.view_is) at c.requires.next in
    let here = coming_made i.monitor i.plan i.scripts i.state i.owner i.commits.items i.positions.items c.args.client c.args.next coming in
    let same = lent_place i.positions.items c.args.client here.place (Notifying here.to_come) c.index_mut.result.now here.at c.index_mut.ensures.value in
    let passes : Passes (machine_of i.monitor i.plan i.scripts i.state i.owner i.commits.items i.positions.items) c.args.client = rw (← c.self.view_is) at c.requires.nobody in
    let before = machine_of i.monitor i.plan i.scripts i.state i.owner i.commits.items i.positions.items in
    rw (← same) (
      event_keeps_machine (events.Notify c.args.client None) before _ c.self.invariant.0 (passed i.monitor i.plan i.scripts i.state i.owner i.commits.items i.positions.items c.args.client c.args.next passes here),
      c.self.invariant.1,
    )

pub returns : goal.returns
returns c =
    let i = c.self.inside in
    let coming : IsComing (machine_of i.monitor i.plan i.scripts i.state i.owner i.commits.items i.positions.items) c.args.client c.args.next = rw (← c.self.view_is) at c.requires.next in
    let here = coming_made i.monitor i.plan i.scripts i.state i.owner i.commits.items i.positions.items c.args.client c.args.next coming in
    let same = lent_place i.positions.items c.args.client here.place (Notifying here.to_come) c.index_mut.result.now here.at c.index_mut.ensures.value in
    let passes : Passes (machine_of i.monitor i.plan i.scripts i.state i.owner i.commits.items i.positions.items) c.args.client = rw (← c.self.view_is) at c.requires.nobody in
    (ap (λ (m : Machine). m.system) c.self.view_is, rw (← c.self.view_is, ← same) (passed i.monitor i.plan i.scripts i.state i.owner i.commits.items i.positions.items c.args.client c.args.next passes here))
