use Rattle.std.proofs.Common.{◌≤◌, length, sym, ◌∙◌, arith}
use Rattle.lang_base.specs.Limits.{CLIENTS}
use Rattle.machine_explicit.specs.Machines.{Machine, IsMachine}
use Rattle.std.proofs.lemmas.Bool.{not-true, not-false}
use Rattle.machine_explicit.proofs.Noting.{unfired_passes, unfired_made, fired_of, broadcast_made, empty_passes, nobody_made, signal_made, first_waits, line_few, first_few}
use Rattle.machine_explicit.proofs.sectioning.make_note.Goals as goal

few : (machine : Machine) → IsMachine machine → length machine.now.standings ≤ CLIENTS
few machine rule = omega (arith, rule.clients.few, rule.sound.one_each)

pub unreachable-requires : goal.unreachable-requires
unreachable-requires c = c.in_default.ensures.comes c.requires.coming.0 c.requires.coming.1 c.requires.coming.2 c.requires.coming.3

pub pass-requires-clause-nobody : goal.pass-requires-clause-nobody
pass-requires-clause-nobody c = unfired_passes c.args.client c.args.config.now c.in-Some.coming.next c.in-Some.ensures.comes.0 (sym c.in-Some.ensures.comes.1 ∙ (not-true c.in-Some.coming.fires c.if-not-coming.true))

pub returns-then-not-coming : goal.returns-then-not-coming
returns-then-not-coming c =
    rw c.none.ensures (unfired_made c.args.client c.args.config.now c.pass.new.self c.args.rings.now c.in-Some.coming.next c.in-Some.ensures.comes.0 (sym c.in-Some.ensures.comes.1 ∙ (not-true c.in-Some.coming.fires c.if-not-coming.true)) c.pass.ensures)

pub pass-requires-in_default-first-clause-nobody : goal.pass-requires-in_default-first-clause-nobody
pass-requires-in_default-first-clause-nobody c =
    let fired = fired_of c.args.client c.args.config.now c.in-Some.coming.next c.in-Some.ensures.comes.0 (sym c.in-Some.ensures.comes.1 ∙ (not-false c.in-Some.coming.fires c.if-not-coming.false)) in
    empty_passes c.args.client c.args.config.now c.args.rings.now c.in-Some.coming.next.note c.requires.lines fired (sym c.in_default-first.ensures)

pub returns-in_default-first : goal.returns-in_default-first
returns-in_default-first c =
    let fired = fired_of c.args.client c.args.config.now c.in-Some.coming.next c.in-Some.ensures.comes.0 (sym c.in-Some.ensures.comes.1 ∙ (not-false c.in-Some.coming.fires c.if-not-coming.false)) in
    rw c.none-in_default-first.ensures (nobody_made c.args.client c.args.config.now c.pass-in_default-first.new.self c.args.rings.now c.in-Some.coming.next.note fired (sym c.in_default-first.ensures) c.pass-in_default-first.ensures)

pub clients-woken-requires : goal.clients-woken-requires
clients-woken-requires c = line_few c.in-Some.coming.next.note.condition c.args.config.now c.args.rings.now c.requires.lines (few c.args.config.now c.in-Some.ensures.rule)

pub returns-then-next : goal.returns-then-next
returns-then-next c =
    let fired = fired_of c.args.client c.args.config.now c.in-Some.coming.next c.in-Some.ensures.comes.0 (sym c.in-Some.ensures.comes.1 ∙ (not-false c.in-Some.coming.fires c.if-not-coming.false)) in
    rw c.clear.ensures (broadcast_made c.args.client c.clients-woken.result.bits c.args.config.now c.wake_each.new.self c.args.rings.now c.in-Some.coming.next.note fired c.if-next.true c.clients-woken.ensures c.wake_each.ensures)

pub wake_one-requires-clause-waits : goal.wake_one-requires-clause-waits
wake_one-requires-clause-waits c = first_waits c.args.config.now c.args.rings.now c.in-Some.coming.next.note.condition c.in-Some-first.target c.requires.lines (sym c.in-Some-first.ensures)

pub one-requires : goal.one-requires
one-requires c =
    first_few c.in-Some.coming.next.note.condition c.in-Some-first.target c.args.config.now c.args.rings.now c.requires.lines (few c.args.config.now c.in-Some.ensures.rule) (sym c.in-Some-first.ensures)

pub returns : goal.returns
returns c =
    let fired = fired_of c.args.client c.args.config.now c.in-Some.coming.next c.in-Some.ensures.comes.0 (sym c.in-Some.ensures.comes.1 ∙ (not-false c.in-Some.coming.fires c.if-not-coming.false)) in
    rw c.pop.ensures (signal_made c.args.client c.one.result.bits c.args.config.now c.wake_one.new.self c.args.rings.now c.in-Some.coming.next.note c.in-Some-first.target fired c.if-next.false (sym c.in-Some-first.ensures) c.wake_one.ensures
    c.one.ensures)
