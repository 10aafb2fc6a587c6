use Rattle.base_io.proofs.Writing.{wrote_both, wrote_fails, wrote_longer}
use Rattle.emit_statements.specs.Sources.{seen}
use Rattle.emit_statements.specs.inner.Parts.{heard_texts}
use Rattle.emit_statements.proofs.statements.write_copy.Goals as goal

pub returns-in_err-write_piece : goal.returns-in_err-write_piece
returns-in_err-write_piece g c =
    wrote_fails _ c.from_residual.ensures.0 (wrote_longer (heard_texts (seen c.args.source.now) c.args.notes.now) c.in_err-write_piece.ensures)

pub returns : goal.returns
returns g c = wrote_both c.in_ok-write_piece.ensures c.write_heard_notes.ensures
