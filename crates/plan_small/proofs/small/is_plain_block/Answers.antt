use Rattle.std.proofs.Common.{◌+◌, refl, rules}
use Rattle.plan_small.proofs.Smallness.{block_apart, block_unkept, block_whole, more_up_to}
use Rattle.plan_small.proofs.small.is_plain_block.Goals as goal

pub returns-then-not-kept : goal.returns-then-not-kept
returns-then-not-kept c = block_unkept c.args.monitor.now c.args.block c.args.all.now c.in_ok-kept.kept c.requires.all c.in_ok-kept.ensures c.if-not-kept.true

pub returns-then-not-plain : goal.returns-then-not-plain
returns-then-not-plain c =
    let low = c.loop-index-test.true in
    let index = c.loop-index.index in
    block_apart c.args.monitor.now c.args.block index (index + 1) c.in_ok-plain.plain refl (search rules) c.in_ok-plain.ensures c.if-not-plain.true

pub loop-index-preserved : goal.loop-index-preserved
loop-index-preserved c =
    let index = c.loop-index.index in
    more_up_to c.args.monitor.now c.args.block index (index + 1) refl c.loop-index.invariant (c.in_ok-plain.ensures.0 c.if-not-plain.false)

pub returns : goal.returns
returns c =
    let past = c.loop-index-test.false in
    block_whole c.args.monitor.now c.args.block c.args.all.now c.in_ok-kept.kept c.loop-index.index c.requires.all c.in_ok-kept.ensures c.if-not-kept.false (search rules) c.loop-index.invariant
