use Rattle.std.proofs.Common.{◌∙◌, ap, Bool}
use Rattle.base_io.proofs.Writing.{wrote_same}
use Rattle.emit_method.specs.Lasting.{after_call}
use Rattle.emit_method.proofs.lasting.write_after.Goals as goal

pub returns : goal.returns
returns g c = wrote_same _ (c.after_call.ensures ∙ ap (λ (answers : Bool). after_call answers c.args.it.now.fails) c.answers_by.ensures) c.write_piece.ensures
