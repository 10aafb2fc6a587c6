use Rattle.base_io.proofs.Writing.{wrote_both, wrote_fails, wrote_longer}
use Rattle.lang_printer.proofs.printer.expressions.write_around.Goals as goal

pub returns-in_err-write_expression : goal.returns-in_err-write_expression
returns-in_err-write_expression g c = wrote_fails _ c.from_residual-in_err-write_expression.ensures.0 (wrote_longer _ (wrote_both c.in_ok-write_pieces.ensures c.in_err-write_expression.ensures))

pub returns : goal.returns
returns g c = wrote_both (wrote_both c.in_ok-write_pieces.ensures c.in_ok-write_expression.ensures) c.write_piece.ensures
