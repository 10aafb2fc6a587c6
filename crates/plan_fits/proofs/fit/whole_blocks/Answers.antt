use Rattle.plan_fits.proofs.MadeQuestions.{one_more_whole}
use Rattle.plan_fits.proofs.fit.whole_blocks.Goals as goal

pub loop-block-preserved : goal.loop-block-preserved
loop-block-preserved c =
    one_more_whole c.args.monitor.now c.args.kept.now c.loop-block.whole.items c.push.new.self.items c.in_ok-fit.fit c.is_some.result c.loop-block.block c.loop-block.invariant.0 c.loop-block.invariant.1
    c.in_ok-fit.ensures c.is_some.ensures c.in_ok-push.ensures.items
