use Rattle.report_audit.proofs.Uncounted.{signals_more}
use Rattle.report_audit.proofs.counting.first_uncounted.Goals as goal

pub loop-index-preserved : goal.loop-index-preserved
loop-index-preserved c =
    signals_more c.args.monitor.now c.args.plan.now c.loop-index.index c.in_ok-question.field-0 c.in-None.is c.in_ok-question.ensures c.loop-index.invariant
