use Rattle.std.proofs.Common.{true, false}
use Rattle.report_audit.proofs.FoundByCounting.{found_by}
use Rattle.report_audit.proofs.auditing.asked_by.Goals as goal

pub returns-then-count : goal.returns-then-count
returns-then-count c = found_by c.args.count true c.args.monitor.now c.args.plan.now c.counted.result c.if-count.true c.counted.ensures

pub returns-else-count : goal.returns-else-count
returns-else-count c = found_by c.args.count false c.args.monitor.now c.args.plan.now c.asked.result c.if-count.false c.asked.ensures
