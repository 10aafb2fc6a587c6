use Rattle.lang_monitor.proofs.PathCounts.{count_more}
use Rattle.lang_monitor.proofs.counting.+count.Goals as goal

pub count_of_body-loop-statement-preserved : goal.count_of_body-loop-statement-preserved
count_of_body-loop-statement-preserved t c =
    count_more c.args.body.now c.loop-statement.statement-index c.statement-item.result c.loop-statement.total c.count_of_statement.result c.limited_product-total.result c.loop-statement-test.true c.statement-item.is c.loop-statement.invariant c.count_of_statement.ensures c.limited_product-total.ensures
