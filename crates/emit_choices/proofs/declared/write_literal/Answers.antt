use Rattle.std.proofs.Common.{decimal}
use Rattle.base_io.proofs.Writing.{wrote_both, wrote_fails, wrote_longer, wrote_same}
use Rattle.emit_choices.proofs.declared.write_literal.Goals as goal

pub returns-in_err-write_piece : goal.returns-in_err-write_piece
returns-in_err-write_piece g c =
    wrote_fails _ c.from_residual.ensures.0 (wrote_longer (decimal c.args.value.digits) (wrote_same _ (c.minus_bytes.ensures) c.in_err-write_piece.ensures))

pub returns : goal.returns
returns g c =
    wrote_both (wrote_same _ (c.minus_bytes.ensures) c.in_ok-write_piece.ensures) c.write_digits.ensures
