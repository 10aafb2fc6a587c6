use Rattle.std.proofs.Common.{sym}
use Rattle.base_io.proofs.Writing.{wrote_both}
use Rattle.report_text.proofs.ending.write_if_blocked.Goals as goal

pub returns : goal.returns
returns g c = rw (sym c.if-has_done.ensures) (wrote_both c.in_ok-write_call.ensures c.write_piece.ensures)
