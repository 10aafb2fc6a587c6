use Rattle.machine_explicit.proofs.Noting.{making_starts, making_goes_on, making_has_note, making_lines, making_ends}
use Rattle.machine_explicit.proofs.sectioning.make_notes.Goals as goal

pub loop-made-init : goal.loop-made-init
loop-made-init c = rw c.none-woken.ensures (making_starts c.args.client c.args.config.now c.args.rings.now c.notes_left-made-end.result c.notes_left-made-end.ensures)

pub make_note-more-requires-clause-lines : goal.make_note-more-requires-clause-lines
make_note-more-requires-clause-lines c =
    making_lines c.args.client c.args.config.now c.args.rings.now c.loop-made.config c.loop-made.rings c.loop-made._made c.notes_left-made-end.result c.loop-made.woken.bits c.loop-made.invariant c.requires.lines

pub make_note-more-requires-clause-coming : goal.make_note-more-requires-clause-coming
make_note-more-requires-clause-coming c =
    making_has_note c.args.client c.args.config.now c.args.rings.now c.loop-made.config c.loop-made.rings c.loop-made._made c.notes_left-made-end.result c.loop-made.woken.bits c.loop-made.invariant c.requires.notifying c.loop-made-test.true

pub loop-made-preserved : goal.loop-made-preserved
loop-made-preserved c =
    rw c.with-woken.ensures (making_goes_on c.args.client c.args.config.now c.args.rings.now c.loop-made.config c.loop-made.rings c.make_note-more.new.config c.make_note-more.new.rings c.loop-made._made c.notes_left-made-end.result c.loop-made.woken.bits c.make_note-more.result.bits c.loop-made.invariant
    (making_lines c.args.client c.args.config.now c.args.rings.now c.loop-made.config c.loop-made.rings c.loop-made._made c.notes_left-made-end.result c.loop-made.woken.bits c.loop-made.invariant c.requires.lines) c.make_note-more.ensures)

pub returns : goal.returns
returns c =
    making_ends c.args.client c.args.config.now c.args.rings.now c.loop-made.config c.loop-made.rings c.loop-made._made c.notes_left-made-end.result c.loop-made.woken.bits c.loop-made.invariant c.requires.notifying c.loop-made-test.false
