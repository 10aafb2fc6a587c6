use Rattle.base_io.proofs.Rows.{flat_map-next, flat_map-parts}
use Rattle.base_io.proofs.Writing.{wrote_both, wrote_same, wrote_until}
use Rattle.emit_statements.specs.Sources.{seen}
use Rattle.emit_statements.specs.inner.Parts.{heard_text}
use Rattle.emit_statements.proofs.statements.write_heard_notes.Goals as goal

pub loop-note-preserved : goal.loop-note-preserved
loop-note-preserved g c =
    wrote_same _ (flat_map-next (heard_text (seen c.args.source.now)) c.args.notes.now c.loop-note.note-index _ c.loop-note-test.true) (wrote_both c.loop-note.invariant c.in_ok-write_heard.ensures)

pub returns-in_err-write_heard : goal.returns-in_err-write_heard
returns-in_err-write_heard g c =
    wrote_until _ _ _ (flat_map-parts (heard_text (seen c.args.source.now)) c.args.notes.now c.loop-note.note-index _ c.loop-note-test.true) c.from_residual.ensures.0 c.loop-note.invariant c.in_err-write_heard.ensures
