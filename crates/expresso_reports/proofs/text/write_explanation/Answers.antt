use Rattle.std.proofs.Common.{List, ◌++◌, subst}
use Rattle.machine_events.specs.PlanText.{plan_text}
use Rattle.base_io.specs.Writing.{Wrote}
use Rattle.base_io.proofs.Writing.{wrote_both, wrote_fails, wrote_longer}
use Rattle.report_reasons.specs.ReasonText.{reasons_text}
use Rattle.plan_why.specs.declared.reason.Reason.{Reason}
use Rattle.expresso_reports.proofs.text.write_explanation.Goals as goal

pub returns-in_err-write_plan : goal.returns-in_err-write_plan
returns-in_err-write_plan g c =
    wrote_fails _ c.from_residual.ensures.0 (wrote_longer (reasons_text c.args.tree.now c.args.monitor.now c.args.explanation.now.reasons.items) c.in_err-write_plan.ensures)

pub returns : goal.returns
returns g c =
    subst (λ (reasons : List Reason). Wrote (g.S.Sink.seen c.args.out.now) (g.S.Sink.seen c.write_reasons.new.out) c.write_reasons.result (plan_text c.args.monitor.now c.args.explanation.now.plan ++ reasons_text c.args.tree.now c.args.monitor.now reasons))
    c.as_slice.ensures.value (wrote_both c.in_ok-write_plan.ensures c.write_reasons.ensures)
