use Rattle.std.proofs.Common.{◌++◌, codes}
use Rattle.machine_events.specs.PlanText.{note_text}
use Rattle.lang_printer.proofs.Printing.{after_first}
use Rattle.base_io.proofs.Rows.{flat_map-parts}
use Rattle.base_io.proofs.Writing.{wrote_both, wrote_same, wrote_until}
use Rattle.report_text.proofs.PlanRows.{notes-cut, notes-done}
use Rattle.report_text.proofs.plan.write_notes.Goals as goal

pub returns : goal.returns
returns g c =
    wrote_same _ (notes-done c.args.notes.now _ c.loop-note.note-index c.in-len1-up.len_at_least c.loop-note-test.false) (wrote_both c.in_ok-write_note.ensures c.loop-note.invariant)

pub returns-in_err-write_note-2 : goal.returns-in_err-write_note-2
returns-in_err-write_note-2 g c =
    let stopped = wrote_until _ _ _ (flat_map-parts (λ note. codes ", " ++ note_text note) (after_first c.args.notes.now) c.loop-note.note-index _ c.loop-note-test.true) c.from_residual-in_err-write_note-2.ensures.0 c.loop-note.invariant c.in_err-write_note-2.ensures in
    wrote_same _ (notes-cut c.args.notes.now _ c.in-len1-up.len_at_least) (wrote_both c.in_ok-write_note.ensures stopped)
