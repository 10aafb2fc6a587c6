use Rattle.plan_count.proofs.GuardCuts.{cut_next}
use Rattle.plan_count.proofs.measures.+cutting.Goals as goal

pub parts_without-loop-part-preserved : goal.parts_without-loop-part-preserved
parts_without-loop-part-preserved t c =
    cut_next c.args.parts.now c.loop-part.part-index c.loop-part.left c.args.row c.rows_after-left.result c.part-item.result c.in_ok-without_row.field-0 c.loop-part.cut.items c.push.new.self.items
    c.loop-part-test.true c.part-item.is c.in_ok-without_row.ensures c.rows_after-left.ensures c.in_ok-push.ensures.items c.loop-part.invariant
