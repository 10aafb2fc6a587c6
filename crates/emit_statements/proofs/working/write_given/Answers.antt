use Rattle.std.proofs.Common.{◌∙◌, ap}
use Rattle.base_io.proofs.Writing.{wrote_same}
use Rattle.emit_statements.specs.Statements.{given_text}
use Rattle.emit_statements.proofs.working.write_given.Goals as goal

pub returns : goal.returns
returns g c =
    wrote_same _ (c.given_bytes.ensures ∙ ap given_text c.answer_of.ensures) c.write_piece.ensures
