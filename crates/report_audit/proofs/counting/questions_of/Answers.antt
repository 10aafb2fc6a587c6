use Rattle.report_audit.specs.CountedFindings.{block_questions}
use Rattle.report_audit.proofs.CountAsked.{ranged_more}
use Rattle.report_audit.proofs.counting.questions_of.Goals as goal

pub loop-index-preserved : goal.loop-index-preserved
loop-index-preserved c =
    ranged_more (block_questions c.args.monitor.now c.args.plan.now c.args.condition c.args.row) c.loop-index.index c.loop-index.all.items c.push_block.new.questions.items
    c.loop-index.invariant c.in_ok-push_block.ensures
