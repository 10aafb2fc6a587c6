use Rattle.std.proofs.Common.{◌++◌, ap, codes}
use Rattle.base_io.proofs.Writing.{wrote_same}
use Rattle.emit_statements.proofs.statements.write_wrapped_end.Goals as goal

pub returns : goal.returns
returns g c =
    wrote_same _ (ap (λ t. codes "        Ok(" ++ t ++ codes ")\n") c.answer_bytes.ensures) c.write_pieces.ensures
