use Rattle.std.proofs.Common.{◌∙◌}
use Rattle.report_proofs.proofs.Fronts.{at_none, at_some}
use Rattle.report_proofs.proofs.ReportParts.{with_all, with_none}
use Rattle.report_proofs.proofs.report_reading.with_proofs.Goals as goal

pub returns-in-Some : goal.returns-in-Some
returns-in-Some c =
    with_all c.args.monitor.now c.args.plan c.deref.result.now c.args.bytes.now c.in-Some.proofs.items c.in-Some.rest.now c.whole_report.result (c.deref.ensures.value ∙ c.in_ok-claims.ensures)
    (at_some _ _ c.in-Some.is c.in_ok-proofs.ensures) c.whole_report.ensures

pub returns-in-None : goal.returns-in-None
returns-in-None c =
    with_none c.args.monitor.now c.args.plan c.deref.result.now c.args.bytes.now (c.deref.ensures.value ∙ c.in_ok-claims.ensures) (at_none _ _ c.in-None.is c.in_ok-proofs.ensures)
