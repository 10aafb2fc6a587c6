use Rattle.std.proofs.Common.{codes}
use Rattle.base_io.proofs.Writing.{wrote_both, wrote_fails, wrote_longer}
use Rattle.emit_method.proofs.called.write_generic.Goals as goal

pub returns-in_err-write_work_name : goal.returns-in_err-write_work_name
returns-in_err-write_work_name g c =
    wrote_fails _ c.from_residual.ensures.0 (wrote_longer (codes "<R>") c.in_err-write_work_name.ensures)

pub returns : goal.returns
returns g c =
    wrote_both c.in_ok-write_work_name.ensures c.write_piece.ensures
