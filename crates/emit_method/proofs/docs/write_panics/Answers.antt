use Rattle.std.proofs.Common.{◌∙◌, ap, length}
use Rattle.base_io.proofs.Writing.{wrote_same}
use Rattle.emit_method.specs.Docs.{panics_text}
use Rattle.emit_method.proofs.docs.write_panics.Goals as goal

pub returns : goal.returns
returns g c =
    wrote_same _ (c.panics_bytes.ensures ∙ ap panics_text (ap length c.items.ensures)) c.write_piece.ensures
