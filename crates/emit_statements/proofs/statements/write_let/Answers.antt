use Rattle.std.proofs.Common.{◌∙◌, ap}
use Rattle.base_io.proofs.Writing.{wrote_same}
use Rattle.emit_statements.specs.Statements.{let_text}
use Rattle.emit_statements.proofs.statements.write_let.Goals as goal

pub returns : goal.returns
returns g c =
    wrote_same _ (c.let_bytes.ensures ∙ ap let_text c.answer_of.ensures) c.write_piece.ensures
