use Rattle.std.proofs.Common.{refl, ◌∙◌}
use Rattle.lang_types.proofs.BlockSteps.{block_fine, block_more, blocks_done}
use Rattle.lang_types.proofs.BlockSteps.{none_added, still_room}
use Rattle.lang_types.proofs.making.blocks.push_blocks.Goals as goal

pub block_of-requires-clause-few : goal.block_of-requires-clause-few
block_of-requires-clause-few c =
    still_room c.args.decls.now c.args.number c.args.tree.now c.items-blocks.result.now c.loop-block.block-index c.args.to.now.items c.loop-block.to.items c.args.known.now.items c.loop-block.known.items
    c.loop-block-test.true c.items-blocks.ensures c.requires.fine c.requires.few c.loop-block.invariant

pub block_of-requires-clause-fine : goal.block_of-requires-clause-fine
block_of-requires-clause-fine c =
    block_fine c.args.tree.now c.in_ok-scope.scope c.items-entries.result.now c.items-blocks.result.now c.loop-block.block-index c.block-item.result
    c.items-entries.ensures c.items-blocks.ensures c.in_ok-scope.ensures.fine c.block-item.is c.loop-block-test.true

pub loop-block-init : goal.loop-block-init
loop-block-init c = none_added c.args.decls.now c.args.to.now.items c.args.to.now.items c.args.known.now.items c.args.known.now.items refl refl

pub loop-block-preserved : goal.loop-block-preserved
loop-block-preserved c =
    block_more c.args.decls.now c.args.number c.args.tree.now c.items-blocks.result.now c.loop-block.block-index c.block-item.result c.in_ok-made.made
    c.args.to.now.items c.loop-block.to.items c.push.new.self.items c.args.known.now.items c.loop-block.known.items c.block_of.new.known.items c.items-entries.result.now
    c.loop-block-test.true c.block-item.is (c.items-entries.ensures ∙ c.in_ok-scope.ensures.exact) c.loop-block.invariant c.in_ok-made.ensures.block c.in_ok-made.ensures.condition c.in_ok-push.ensures.items

pub returns : goal.returns
returns c =
    blocks_done c.args.decls.now c.args.number c.args.tree.now c.items-blocks.result.now c.loop-block.block-index c.args.to.now.items c.loop-block.to.items c.args.known.now.items c.loop-block.known.items
    c.loop-block-test.false c.items-blocks.ensures c.loop-block.invariant
