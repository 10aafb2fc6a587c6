use Rattle.std.proofs.Common.{◌∙◌, ap, length}
use Rattle.base_io.proofs.Writing.{wrote_same}
use Rattle.emit_method.specs.Docs.{other_error}
use Rattle.emit_method.proofs.docs.write_other_error.Goals as goal

pub returns : goal.returns
returns g c =
    wrote_same _ (c.other_bytes.ensures ∙ ap (other_error c.args.it.now.fails) (ap length c.items.ensures)) c.write_piece.ensures
