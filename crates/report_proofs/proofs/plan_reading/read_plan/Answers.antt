use Rattle.report_proofs.proofs.Fronts.{at_none, at_some}
use Rattle.report_proofs.proofs.PlanParts.{plan_answer, plan_none}
use Rattle.report_proofs.proofs.plan_reading.read_plan.Goals as goal

pub returns-in-Some : goal.returns-in-Some
returns-in-Some c =
    plan_answer c.args.monitor.now c.args.bytes.now c.in-Some.rest.now c.in-Some.plan c.whole.result (at_some _ _ c.in-Some.is c.in_ok-plan.ensures) c.whole.ensures

pub returns-in-None : goal.returns-in-None
returns-in-None c = plan_none c.args.monitor.now c.args.bytes.now (at_none _ _ c.in-None.is c.in_ok-plan.ensures)
