use Rattle.std.proofs.Common.{map, ap, ◌∙◌, ◌≡◌, true, arith, None}
use Rattle.machine_events.specs.declared.event.Event.TheVariants as events
use Rattle.machine_events.specs.Events.{fires}
use Rattle.machine_explicit.specs.Machines.{Machine}
use Rattle.machine_explicit.specs.inner.Waiting.{IsComing}
use Rattle.machine_explicit.specs.inner.Positions.{machine_of, waking_position}
use Rattle.machine_explicit.proofs.Making.{event_keeps_machine}
use Rattle.machine_explicit.proofs.MakingWakes.{lent, lent_woken, coming_made}
use Rattle.machine_explicit.proofs.MakingWakes.{next_within, broadcasts}
use Rattle.machine_explicit.proofs.config.Config.wake_each.Goals as goal

pub index_mut-requires : goal.index_mut-requires
index_mut-requires c =
    let i = c.self.inside in
    let coming : IsComing (machine_of i.monitor i.plan i.scripts i.state i.owner i.commits.items i.positions.items) c.args.client c.args.next = rw (← c.self.view_is) at c.requires.next in
    let here = coming_made i.monitor i.plan i.scripts i.state i.owner i.commits.items i.positions.items c.args.client c.args.next coming in
    omega (arith, i.positions.ok.0, next_within i.plan i.positions.items c.args.client c.args.next here)

pub invariant_of-self : goal.invariant_of-self
invariant_of-self c =
    let i = c.self.inside in
    let coming : IsComing (machine_of i.monitor i.plan i.scripts i.state i.owner i.commits.items i.positions.items) c.args.client c.args.next = rw (← c.self.view_is) at c.requires.next in
    let here = coming_made i.monitor i.plan i.scripts i.state i.owner i.commits.items i.positions.items c.args.client c.args.next coming in
    let woken = lent (waking_position c.args.next.note.condition) i.positions.items c.wake_all.new.positions i.positions.len (omega (arith, i.positions.ok.0))
    (c.wake_all.ensures ∙ ap (map (waking_position c.args.next.note.condition)) c.deref_mut.ensures.value) in
    let fired : fires (record { monitor = i.monitor; plan = i.plan; clients = i.scripts }) i.state c.args.next.note ≡ true = rw (← c.self.view_is) at c.requires.fires in
    let same = lent_woken i.plan i.positions.items c.args.client c.args.next here c.index_mut.result.now _ woken c.index_mut.ensures.value in
    let before = machine_of i.monitor i.plan i.scripts i.state i.owner i.commits.items i.positions.items in
    rw (← same, woken) (
      event_keeps_machine (events.Notify c.args.client None) before _ c.self.invariant.0 (broadcasts i.monitor i.plan i.scripts i.state i.owner i.commits.items i.positions.items c.args.client c.args.next here fired c.requires.each),
      c.self.invariant.1,
    )

pub returns : goal.returns
returns c =
    let i = c.self.inside in
    let coming : IsComing (machine_of i.monitor i.plan i.scripts i.state i.owner i.commits.items i.positions.items) c.args.client c.args.next = rw (← c.self.view_is) at c.requires.next in
    let here = coming_made i.monitor i.plan i.scripts i.state i.owner i.commits.items i.positions.items c.args.client c.args.next coming in
    let woken = lent (waking_position c.args.next.note.condition) i.positions.items c.wake_all.new.positions i.positions.len (omega (arith, i.positions.ok.0))
    (c.wake_all.ensures ∙ ap (map (waking_position c.args.next.note.condition)) c.deref_mut.ensures.value) in
    let fired : fires (record { monitor = i.monitor; plan = i.plan; clients = i.scripts }) i.state c.args.next.note ≡ true = rw (← c.self.view_is) at c.requires.fires in
    let same = lent_woken i.plan i.positions.items c.args.client c.args.next here c.index_mut.result.now _ woken c.index_mut.ensures.value in
    (ap (λ (m : Machine). m.system) c.self.view_is, rw (← c.self.view_is, ← same, woken) (broadcasts i.monitor i.plan i.scripts i.state i.owner i.commits.items i.positions.items c.args.client c.args.next here fired c.requires.each))
