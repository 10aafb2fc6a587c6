use Rattle.report_audit.proofs.AtSight.{joined}
use Rattle.report_audit.proofs.sight.suits_as.Goals as goal

pub returns : goal.returns
returns c =
    joined c.args.monitor.now c.args.plan.now c.args.condition c.both.result c.reads_none-none.result c.is_broadcast_at-wide.result c.either-kind.result c.are_lists_suited-notes.result
    c.items.result.now c.items-2.result.now c.reads_none-none.ensures c.is_broadcast_at-wide.ensures c.items.ensures c.either-kind.ensures c.items-2.ensures c.are_lists_suited-notes.ensures c.both.ensures
