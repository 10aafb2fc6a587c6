use Rattle.std.proofs.Common.{◌+◌, refl, rules}
use Rattle.plan_small.proofs.Smallness.{blocks_apart, blocks_whole, more_blocks}
use Rattle.plan_small.proofs.small.are_plain_blocks.Goals as goal

pub returns-then-not-plain : goal.returns-then-not-plain
returns-then-not-plain c = blocks_apart c.args.monitor.now c.loop-block.block c.in_ok-plain.plain (search rules) c.in_ok-plain.ensures c.if-not-plain.true

pub loop-block-preserved : goal.loop-block-preserved
loop-block-preserved c =
    let block = c.loop-block.block in
    more_blocks c.args.monitor.now block (block + 1) refl c.loop-block.invariant (c.in_ok-plain.ensures.0 c.if-not-plain.false)

pub returns : goal.returns
returns c = blocks_whole c.args.monitor.now c.loop-block.block (search rules) c.loop-block.invariant
