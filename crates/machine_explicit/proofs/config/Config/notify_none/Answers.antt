use Rattle.std.proofs.Common.{sym, refl, ◌∙◌, None, inr}
use Rattle.machine_explicit.specs.inner.Waiting.{Comes}
use Rattle.machine_explicit.specs.inner.Positions.{machine_of}
use Rattle.std.proofs.lemmas.Bool.{not-true, not-false}
use Rattle.machine_explicit.proofs.MakingWakes.{none_notifies, coming_made, none_waits_made, names_one, stands_next}
use Rattle.machine_explicit.proofs.Noting.{unfired_passes}
use Rattle.machine_explicit.proofs.config.Config.notify_none.Goals as goal

pub returns-in_default : goal.returns-in_default
returns-in_default c = (refl, none_notifies _ c.args.client None c.in_default.ensures.comes)

pub pass-requires-clause-nobody : goal.pass-requires-clause-nobody
pass-requires-clause-nobody c = unfired_passes c.args.client _ c.in-Some.coming.next c.in-Some.ensures.comes.0 (sym c.in-Some.ensures.comes.1 ∙ (not-true c.in-Some.coming.fires c.if-not-coming.true))

pub returns-then-some_waits : goal.returns-then-some_waits
returns-then-some_waits c =
    let i = c.self.inside in
    let comes : Comes (machine_of i.monitor i.plan i.scripts i.state i.owner i.commits.items i.positions.items) c.args.client c.in-Some.coming = rw (← c.self.view_is) at c.in-Some.ensures.comes in
    let here = coming_made i.monitor i.plan i.scripts i.state i.owner i.commits.items i.positions.items c.args.client c.in-Some.coming.next comes.0 in
    let waits = rw c.deref.ensures.value at (sym c.if-some_waits.ensures) in
    (refl, rw (← c.self.view_is) (names_one i.monitor i.plan i.scripts i.state i.owner i.commits.items i.positions.items c.args.client c.in-Some.coming.next here (sym comes.1 ∙ (not-false c.in-Some.coming.fires c.if-not-coming.false)) c.if-next.false waits))

pub pass-requires-2-clause-nobody : goal.pass-requires-2-clause-nobody
pass-requires-2-clause-nobody c =
    let i = c.self.inside in
    let comes : Comes (machine_of i.monitor i.plan i.scripts i.state i.owner i.commits.items i.positions.items) c.args.client c.in-Some.coming = rw (← c.self.view_is) at c.in-Some.ensures.comes in
    let here = coming_made i.monitor i.plan i.scripts i.state i.owner i.commits.items i.positions.items c.args.client c.in-Some.coming.next comes.0 in
    let none = rw c.deref.ensures.value at (sym c.if-some_waits.ensures) in
    rw (← c.self.view_is) (here.place, c.in-Some.coming.next.note, here.first.more, stands_next i.plan i.positions.items c.args.client c.in-Some.coming.next here, inr (none_waits_made i.plan i.positions.items c.in-Some.coming.next.note.condition none))
