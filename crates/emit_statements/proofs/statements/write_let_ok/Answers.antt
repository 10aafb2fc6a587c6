use Rattle.std.proofs.Common.{◌++◌, ◌∙◌, codes, ap}
use Rattle.base_io.proofs.Writing.{wrote_same}
use Rattle.emit_statements.specs.Statements.{answer_name}
use Rattle.emit_statements.proofs.statements.write_let_ok.Goals as goal

pub returns : goal.returns
returns g c =
    wrote_same _ (ap (λ t. codes "        let Ok(" ++ t ++ codes ") = ") (c.answer_bytes-name.ensures ∙ ap answer_name c.answer_of.ensures)) c.write_pieces.ensures
