use Rattle.std.proofs.Common.{◌∙◌, ap, length}
use Rattle.base_io.proofs.Writing.{wrote_same}
use Rattle.emit_statements.specs.Conditions.{comma_text}
use Rattle.emit_method.proofs.lasting.write_comma.Goals as goal

pub returns : goal.returns
returns g c = wrote_same _ (c.comma_bytes.ensures ∙ ap comma_text (ap length c.items.ensures)) c.write_piece.ensures
