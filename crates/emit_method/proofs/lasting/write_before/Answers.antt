use Rattle.std.proofs.Common.{◌∙◌, ap}
use Rattle.base_io.proofs.Writing.{wrote_same}
use Rattle.emit_method.specs.Lasting.{before_call}
use Rattle.emit_method.proofs.lasting.write_before.Goals as goal

pub returns : goal.returns
returns g c = wrote_same _ (c.before_call.ensures ∙ ap before_call c.answers_by.ensures) c.write_piece.ensures
