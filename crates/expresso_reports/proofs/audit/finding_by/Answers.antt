use Rattle.std.proofs.Common.{true, false}
use Rattle.report_audit.proofs.FoundByCounting.{found_by}
use Rattle.expresso_reports.proofs.audit.finding_by.Goals as goal

pub returns-then-count : goal.returns-then-count
returns-then-count c =
    found_by c.args.count true c.args.monitor.now c.args.plan.now c.audit_by_counting.result c.if-count.true c.audit_by_counting.ensures.finding

pub returns-else-count : goal.returns-else-count
returns-else-count c = found_by c.args.count false c.args.monitor.now c.args.plan.now c.audit.result c.if-count.false c.audit.ensures.finding
