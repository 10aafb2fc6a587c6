use Rattle.std.proofs.Common.{codes}
use Rattle.base_io.proofs.Writing.{wrote_both, wrote_fails, wrote_longer}
use Rattle.report_reasons.specs.ReasonText.{change_text}
use Rattle.report_failures.proofs.kept.write_broken.Goals as goal

pub returns-in_err-write_leaving : goal.returns-in_err-write_leaving
returns-in_err-write_leaving g c =
    wrote_fails _ c.from_residual.ensures.0 (wrote_longer (codes "\n") (wrote_longer (change_text c.args.monitor.now c.args.failure.now.before c.args.failure.now.after) c.in_err-write_leaving.ensures))

pub returns-in_err-write_change : goal.returns-in_err-write_change
returns-in_err-write_change g c = wrote_fails _ c.from_residual-in_err-write_change.ensures.0 (wrote_longer (codes "\n") (wrote_both c.in_ok-write_leaving.ensures c.in_err-write_change.ensures))

pub returns : goal.returns
returns g c = wrote_both (wrote_both c.in_ok-write_leaving.ensures c.in_ok-write_change.ensures) c.write_piece.ensures
