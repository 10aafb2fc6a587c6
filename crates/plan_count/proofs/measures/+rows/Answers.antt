use Rattle.plan_count.proofs.GuardRows.{row_here, row_later, some_left}
use Rattle.plan_count.proofs.measures.+rows.Goals as goal

pub row_among-returns-then-after-eq0 : goal.row_among-returns-then-after-eq0
row_among-returns-then-after-eq0 t c =
    row_here c.args.parts.now c.loop-part.part-index c.loop-part.left c.args.row c.rows_after-after.result c.part-item.result c.row_at.result
    c.loop-part-test.true c.part-item.is c.loop-part.invariant.first c.rows_after-after.ensures c.if-after-eq0.true c.loop-part.invariant.found c.row_at.ensures

pub row_among-loop-part-preserved : goal.row_among-loop-part-preserved
row_among-loop-part-preserved t c =
    let some = some_left c.rows_after-after.result c.if-after-eq0.false in record {
      first = some;
      found = row_later c.args.parts.now c.loop-part.part-index c.loop-part.left c.args.row c.rows_after-after.result c.part-item.result
          c.loop-part-test.true c.part-item.is c.rows_after-after.ensures some c.loop-part.invariant.found;
    }
