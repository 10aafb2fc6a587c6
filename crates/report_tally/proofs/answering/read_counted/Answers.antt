use Rattle.std.proofs.Common.{subst}
use Rattle.report_tally.specs.inner.Lines.{IsShownRow}
use Rattle.report_tally.proofs.ConditionLines.{none_shown}
use Rattle.report_tally.proofs.answering.read_counted.Goals as goal

pub read_by_row-requires : goal.read_by_row-requires
read_by_row-requires c = subst (IsShownRow c.args.monitor.now c.args.plan.now c.args.condition c.args.bytes.now) c.in-Some.is c.in_ok-row.ensures

pub returns-in-None : goal.returns-in-None
returns-in-None c =
    none_shown c.args.monitor.now c.args.plan.now c.args.condition c.args.bytes.now (subst (IsShownRow c.args.monitor.now c.args.plan.now c.args.condition c.args.bytes.now) c.in-None.is c.in_ok-row.ensures)
