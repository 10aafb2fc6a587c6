use Rattle.std.proofs.Common.{take, Ok}
use Rattle.base_io.specs.Writing.{Wrote}
use Rattle.emit_statements.specs.Sources.{seen}
use Rattle.emit_statements.specs.inner.Parts.{heard_text}
use Rattle.std.specs.List.{flat_map}
use Rattle.emit_statements.proofs.statements.write_heard_notes.Given as goal

abbrev pub invariant-loop-note : goal.invariant-loop-note
invariant-loop-note g l =
    Wrote (g.S.Sink.seen l.initial.out) (g.S.Sink.seen l.out) (Ok tt) (flat_map (heard_text (seen l.source)) (take l.note-index l.notes))
