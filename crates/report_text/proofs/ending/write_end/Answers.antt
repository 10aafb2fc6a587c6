use Rattle.base_io.proofs.Writing.{wrote_both, wrote_fails, wrote_longer}
use Rattle.report_text.proofs.ending.write_end.Goals as goal

pub returns-in_err-write_piece : goal.returns-in_err-write_piece
returns-in_err-write_piece g c = rw c.if-finished.false (wrote_fails _ c.from_residual.ensures.0 (wrote_longer _ c.in_err-write_piece.ensures))

pub returns : goal.returns
returns g c = rw c.if-finished.false (wrote_both c.in_ok-write_piece.ensures c.write_blocked.ensures)
