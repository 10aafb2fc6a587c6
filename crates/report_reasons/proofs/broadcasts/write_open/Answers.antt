use Rattle.base_io.proofs.Writing.{wrote_both}
use Rattle.report_reasons.proofs.broadcasts.write_open.Goals as goal

pub returns : goal.returns
returns g c = wrote_both c.in_ok-write_pair.ensures c.write_piece.ensures
