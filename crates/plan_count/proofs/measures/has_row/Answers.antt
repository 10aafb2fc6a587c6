use Rattle.plan_count.proofs.Measured.{has_row_is}
use Rattle.plan_count.proofs.measures.has_row.Goals as goal

pub returns-then-row-ge1 : goal.returns-then-row-ge1
returns-then-row-ge1 c =
    has_row_is c.guard_without_inputs_stays.ensures c.args.monitor.now c.conditions.result.now c.args.condition c.args.row c.rows_after.result c.index-conditions-condition.result
    c.conditions.ensures.rule c.requires c.conditions.ensures.conditions c.index-conditions-condition.is c.rows_after.ensures c.if-row-ge1.true
