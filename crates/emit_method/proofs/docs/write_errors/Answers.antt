use Rattle.std.proofs.Common.{◌∙◌, ap, length}
use Rattle.base_io.proofs.Writing.{wrote_same}
use Rattle.emit_method.specs.Docs.{errors_text}
use Rattle.emit_method.proofs.docs.write_errors.Goals as goal

pub returns : goal.returns
returns g c =
    wrote_same _ (c.errors_bytes.ensures ∙ ap (errors_text c.args.it.now.fails) (ap length c.items.ensures)) c.write_piece.ensures
