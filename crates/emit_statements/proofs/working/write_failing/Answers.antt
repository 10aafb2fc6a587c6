use Rattle.std.proofs.Common.{◌∙◌, ap}
use Rattle.base_io.proofs.Writing.{wrote_same}
use Rattle.emit_statements.specs.Statements.{failing_text}
use Rattle.emit_statements.proofs.working.write_failing.Goals as goal

pub returns : goal.returns
returns g c =
    wrote_same _ (c.failing_bytes.ensures ∙ ap failing_text c.fails_at.ensures) c.write_piece.ensures
