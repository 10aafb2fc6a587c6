use Rattle.std.proofs.Common.{◌++◌, ◌∙◌, codes, ap}
use Rattle.emit_bodies.specs.Blocks.{kind_text}
use Rattle.base_io.proofs.Writing.{wrote_both, wrote_fails, wrote_longer, wrote_same}
use Rattle.emit_choices.specs.Declarations.{start_text}
use Rattle.emit_choices.proofs.declared.write_typed_start.Goals as goal

pub returns-in_err-write_pieces : goal.returns-in_err-write_pieces
returns-in_err-write_pieces g c =
    wrote_fails _ c.from_residual.ensures.0 (wrote_longer (start_text c.args.declared.now) (wrote_same _ (ap (λ t. codes ": " ++ t ++ codes " = ") (c.kind_bytes.ensures ∙ ap kind_text c.kind_declared.ensures)) c.in_err-write_pieces.ensures))

pub returns : goal.returns
returns g c =
    wrote_both (wrote_same _ (ap (λ t. codes ": " ++ t ++ codes " = ") (c.kind_bytes.ensures ∙ ap kind_text c.kind_declared.ensures)) c.in_ok-write_pieces.ensures) c.write_start.ensures
