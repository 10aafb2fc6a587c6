use Rattle.report_proofs.proofs.Fronts.{at_none, at_some}
use Rattle.report_tally.proofs.OwedLines.{report_answer, report_none}
use Rattle.report_tally.proofs.reading.read_counted_report.Goals as goal

pub with_lines-requires : goal.with_lines-requires
with_lines-requires c = (at_some _ _ c.in-Some.is c.in_ok-plan.ensures).holds

pub returns-in-Some : goal.returns-in-Some
returns-in-Some c =
    report_answer c.args.monitor.now c.args.bytes.now c.in-Some.rest.now c.in-Some.plan c.with_lines.result (at_some _ _ c.in-Some.is c.in_ok-plan.ensures) c.with_lines.ensures

pub returns-in-None : goal.returns-in-None
returns-in-None c = report_none c.args.monitor.now c.args.bytes.now (at_none _ _ c.in-None.is c.in_ok-plan.ensures)
