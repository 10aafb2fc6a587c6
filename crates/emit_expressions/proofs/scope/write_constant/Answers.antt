use Rattle.base_io.proofs.Writing.{wrote_both, wrote_fails, wrote_longer}
use Rattle.emit_expressions.proofs.scope.write_constant.Goals as goal

pub returns-in_err-write_piece : goal.returns-in_err-write_piece
returns-in_err-write_piece g c = wrote_fails _ c.from_residual-in_err-write_piece.ensures.0 (wrote_longer _ (wrote_both c.in_ok-write_type.ensures c.in_err-write_piece.ensures))

pub returns : goal.returns
returns g c = wrote_both (wrote_both c.in_ok-write_type.ensures c.in_ok-write_piece.ensures) c.write_member.ensures
