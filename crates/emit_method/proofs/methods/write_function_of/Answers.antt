use Rattle.std.proofs.Common.{◌++◌, ◌∙◌, append-nil, ap, codes}
use Rattle.base_io.proofs.Writing.{wrote_same}
use Rattle.emit_method.proofs.methods.write_function_of.Goals as goal

pub returns : goal.returns
returns g c =
    wrote_same _ (ap (λ t. codes ", f: impl FnOnce(&mut D" ++ t) (append-nil c.function_end.result.now ∙ c.function_end.ensures)) c.write_pieces.ensures
