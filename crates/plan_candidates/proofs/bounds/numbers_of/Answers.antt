use Rattle.plan_candidates.proofs.PoolNumbers.{guards_more}
use Rattle.plan_candidates.proofs.bounds.numbers_of.Goals as goal

pub loop-block-preserved : goal.loop-block-preserved
loop-block-preserved c =
    guards_more c.args.number _ c.loop-block.numbers.items c.push_of_formula.new.numbers.items c.args.blocks.now c.loop-block.block-index c.block-item.result c.loop-block-test.true c.block-item.is c.loop-block.invariant
    c.in_ok-push_of_formula.ensures
