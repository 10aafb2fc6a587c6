use Rattle.std.proofs.Common.{sym, refl, ◌∙◌, Some}
use Rattle.machine_events.specs.declared.event.Stage.TheVariants.{Waiting}
use Rattle.machine_explicit.specs.inner.Waiting.{Comes}
use Rattle.machine_explicit.specs.inner.Positions.{machine_of}
use Rattle.machine_explicit.proofs.Making.{position_stands}
use Rattle.std.proofs.lemmas.Bool.{not-true, true≢false}
use Rattle.machine_explicit.proofs.MakingWakes.{none_notifies, coming_made, signals_not}
use Rattle.machine_explicit.proofs.config.Config.notify_one.Goals as goal

pub returns-in_default : goal.returns-in_default
returns-in_default c = (refl, none_notifies _ c.args.client (Some c.args.target) c.in_default.ensures.comes)

pub returns-then-next : goal.returns-then-next
returns-then-next c =
    let i = c.self.inside in
    let comes : Comes (machine_of i.monitor i.plan i.scripts i.state i.owner i.commits.items i.positions.items) c.args.client c.in-Some.coming = rw (← c.self.view_is) at c.in-Some.ensures.comes in
    let here = coming_made i.monitor i.plan i.scripts i.state i.owner i.commits.items i.positions.items c.args.client c.in-Some.coming.next comes.0 in
    (refl, rw (← c.self.view_is) (signals_not i.monitor i.plan i.scripts i.state i.owner i.commits.items i.positions.items c.args.client c.args.target c.in-Some.coming.next here (λ fired one place waits. true≢false (sym c.if-next.true ∙ one))))

pub returns-then-not-coming : goal.returns-then-not-coming
returns-then-not-coming c =
    let i = c.self.inside in
    let comes : Comes (machine_of i.monitor i.plan i.scripts i.state i.owner i.commits.items i.positions.items) c.args.client c.in-Some.coming = rw (← c.self.view_is) at c.in-Some.ensures.comes in
    let here = coming_made i.monitor i.plan i.scripts i.state i.owner i.commits.items i.positions.items c.args.client c.in-Some.coming.next comes.0 in
    (refl, rw (← c.self.view_is) (signals_not i.monitor i.plan i.scripts i.state i.owner i.commits.items i.positions.items c.args.client c.args.target c.in-Some.coming.next here (λ fired one place waits. true≢false (sym fired ∙ sym comes.1 ∙ (not-true c.in-Some.coming.fires c.if-not-coming.true)))))

pub returns-in_default-waiting_on : goal.returns-in_default-waiting_on
returns-in_default-waiting_on c =
    let i = c.self.inside in
    let comes : Comes (machine_of i.monitor i.plan i.scripts i.state i.owner i.commits.items i.positions.items) c.args.client c.in-Some.coming = rw (← c.self.view_is) at c.in-Some.ensures.comes in
    let here = coming_made i.monitor i.plan i.scripts i.state i.owner i.commits.items i.positions.items c.args.client c.in-Some.coming.next comes.0 in
    let none = rw c.deref.ensures.value at c.in_default-waiting_on.ensures in
    (refl, rw (← c.self.view_is) (signals_not i.monitor i.plan i.scripts i.state i.owner i.commits.items i.positions.items c.args.client c.args.target c.in-Some.coming.next here (λ fired one place waits. none place waits)))

pub wake_one-requires-clause-waits : goal.wake_one-requires-clause-waits
wake_one-requires-clause-waits c =
    let i = c.self.inside in
    let waits = rw c.deref.ensures.value at c.in-Some-waiting_on.ensures in
    rw (← c.self.view_is) (c.in-Some-waiting_on._place.now, position_stands i.plan i.positions.items c.args.target c.in-Some-waiting_on._place.now (Waiting c.in-Some.coming.next.note.condition) waits)
