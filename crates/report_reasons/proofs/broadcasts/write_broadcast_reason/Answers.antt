use Rattle.std.proofs.Common.{codes}
use Rattle.base_io.proofs.Writing.{wrote_both, wrote_fails, wrote_longer}
use Rattle.report_reasons.specs.BroadcastText.{enough_text}
use Rattle.report_reasons.proofs.broadcasts.write_broadcast_reason.Goals as goal

pub returns-in_err-write_piece : goal.returns-in_err-write_piece
returns-in_err-write_piece g c =
    wrote_fails _ c.from_residual.ensures.0 (wrote_longer (codes "\n") (wrote_longer (enough_text c.args.tree.now c.args.monitor.now c.args.reason.now.broadcast c.args.reason.now.failure) c.in_err-write_piece.ensures))

pub returns-in_err-write_enough : goal.returns-in_err-write_enough
returns-in_err-write_enough g c = wrote_fails _ c.from_residual-in_err-write_enough.ensures.0 (wrote_longer (codes "\n") (wrote_both c.in_ok-write_piece.ensures c.in_err-write_enough.ensures))

pub returns : goal.returns
returns g c = wrote_both (wrote_both c.in_ok-write_piece.ensures c.in_ok-write_enough.ensures) c.write_piece-2.ensures
