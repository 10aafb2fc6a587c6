use Rattle.std.proofs.Common.{refl}
use Rattle.base_io.proofs.Rows.{row_went, row_stopped}
use Rattle.report_reasons.specs.ReasonText.{reason_text}
use Rattle.report_reasons.proofs.lines.write_reasons.Goals as goal

pub loop-reason-preserved : goal.loop-reason-preserved
loop-reason-preserved g c =
    row_went (reason_text c.args.tree.now c.args.monitor.now) c.args.reasons.now c.loop-reason.reason-index c.reason-item.result _ c.loop-reason-test.true c.reason-item.is refl c.loop-reason.invariant c.in_ok-write_reason.ensures

pub returns-in_err-write_reason : goal.returns-in_err-write_reason
returns-in_err-write_reason g c =
    row_stopped (reason_text c.args.tree.now c.args.monitor.now) c.args.reasons.now c.loop-reason.reason-index c.reason-item.result _ _ c.loop-reason-test.true c.reason-item.is refl c.from_residual.ensures.0 c.loop-reason.invariant c.in_err-write_reason.ensures
