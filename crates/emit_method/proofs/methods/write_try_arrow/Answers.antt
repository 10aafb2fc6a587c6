use Rattle.std.proofs.Common.{codes, refl}
use Rattle.base_io.proofs.Writing.{wrote_same}
use Rattle.emit_statements.proofs.Choices.{three}
use Rattle.emit_method.proofs.methods.write_try_arrow.Goals as goal

pub returns : goal.returns
returns g c =
    wrote_same _ (three (codes " -> Result<") _ _ _ _ _ refl c.answered_bytes.ensures c.error_bytes.ensures) c.write_pieces.ensures
