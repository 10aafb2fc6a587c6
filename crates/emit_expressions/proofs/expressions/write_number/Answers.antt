use Rattle.base_io.proofs.Writing.{wrote_both}
use Rattle.emit_expressions.proofs.expressions.write_number.Goals as goal

pub returns : goal.returns
returns g c = wrote_both c.in_ok-write_decimal.ensures c.write_piece.ensures
