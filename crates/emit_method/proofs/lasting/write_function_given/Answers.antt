use Rattle.std.proofs.Common.{◌∙◌, ap, length}
use Rattle.base_io.proofs.Writing.{wrote_same}
use Rattle.emit_method.specs.Lasting.{function_given}
use Rattle.emit_method.proofs.lasting.write_function_given.Goals as goal

pub returns : goal.returns
returns g c = wrote_same _ (c.function_given.ensures ∙ ap (function_given c.args.it.now.works) (ap length c.items.ensures)) c.write_piece.ensures
