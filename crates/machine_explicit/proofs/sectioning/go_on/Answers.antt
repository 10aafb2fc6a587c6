use Rattle.std.proofs.Common.{ap, length, arith}
use Rattle.machine_events.specs.Configurations.{System}
use Rattle.machine_explicit.proofs.Sectioned.{ran_notifies, ran_lines, room_to_wait, waited_length, waited_told, replied_told, given_up_told}
use Rattle.machine_explicit.proofs.sectioning.go_on.Goals as goal

pub push-requires-clause-within : goal.push-requires-clause-within
push-requires-clause-within c =
    omega (arith, c.in-Waits.ensures.1.1, c.requires.lines.1.conditions, ap (λ (s : System). length s.monitor.conditions) c.in-Waits.ensures.0.0)

pub push-requires-clause-room : goal.push-requires-clause-room
push-requires-clause-room c =
    omega (
      arith,
      room_to_wait c.args.client c.in-Waits.condition c.requires.inside.0 c.args.config.now c.args.rings.now c.requires.lines c.requires.inside.1,
      c.in-Waits.ensures.2,
      waited_length c.args.client c.args.config.now c.go_on.new.self c.in-Waits.ensures.0,
    )

pub returns-in-Waits : goal.returns-in-Waits
returns-in-Waits c =
    waited_told c.args.client c.in-Waits.condition c.args.config.now c.go_on.new.self c.args.rings.now c.push.new.self c.in-Waits.ensures.0 c.in-Waits.ensures.1 c.push.ensures

pub make_notes-woken-requires-clause-lines : goal.make_notes-woken-requires-clause-lines
make_notes-woken-requires-clause-lines c =
    (c.requires.lines.0, ran_lines c.args.client c.args.config.now c.go_on.new.self c.args.rings.now c.in-Ran.reply c.in-Ran.ensures c.requires.lines.0 c.requires.lines.1)

pub make_notes-woken-requires-clause-notifying : goal.make_notes-woken-requires-clause-notifying
make_notes-woken-requires-clause-notifying c =
    ran_notifies c.args.client c.args.config.now c.go_on.new.self c.in-Ran.reply c.in-Ran.ensures

pub release-requires : goal.release-requires
release-requires c =
    let stands = ran_notifies c.args.client c.args.config.now c.go_on.new.self c.in-Ran.reply c.in-Ran.ensures in
    let lines = ran_lines c.args.client c.args.config.now c.go_on.new.self c.args.rings.now c.in-Ran.reply c.in-Ran.ensures c.requires.lines.0 c.requires.lines.1 in
    (stands.0, (c.make_notes-woken.ensures c.requires.lines.0 lines).0.done stands.0 stands.1 stands.2)

pub returns-in-Ran : goal.returns-in-Ran
returns-in-Ran c =
    replied_told c.args.client c.make_notes-woken.result.bits c.args.config.now c.go_on.new.self c.make_notes-woken.new.config c.release.new.self c.args.rings.now c.make_notes-woken.new.rings c.in-Ran.reply c.in-Ran.ensures
    c.make_notes-woken.ensures c.release.ensures

pub returns-in-GaveUp : goal.returns-in-GaveUp
returns-in-GaveUp c = given_up_told c.args.client c.args.config.now c.go_on.new.self c.release-in-GaveUp.new.self c.args.rings.now c.in-GaveUp.ensures c.release-in-GaveUp.ensures
