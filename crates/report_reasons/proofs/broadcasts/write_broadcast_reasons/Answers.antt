use Rattle.std.proofs.Common.{refl}
use Rattle.base_io.proofs.Rows.{row_went, row_stopped}
use Rattle.report_reasons.specs.BroadcastText.{broadcast_reason_text}
use Rattle.report_reasons.proofs.broadcasts.write_broadcast_reasons.Goals as goal

pub loop-reason-preserved : goal.loop-reason-preserved
loop-reason-preserved g c =
    row_went (broadcast_reason_text c.args.tree.now c.args.monitor.now) c.args.reasons.now c.loop-reason.reason-index c.reason-item.result _ c.loop-reason-test.true c.reason-item.is refl c.loop-reason.invariant c.in_ok-write_broadcast_reason.ensures

pub returns-in_err-write_broadcast_reason : goal.returns-in_err-write_broadcast_reason
returns-in_err-write_broadcast_reason g c =
    row_stopped (broadcast_reason_text c.args.tree.now c.args.monitor.now) c.args.reasons.now c.loop-reason.reason-index c.reason-item.result _ _ c.loop-reason-test.true c.reason-item.is refl c.from_residual.ensures.0 c.loop-reason.invariant c.in_err-write_broadcast_reason.ensures
