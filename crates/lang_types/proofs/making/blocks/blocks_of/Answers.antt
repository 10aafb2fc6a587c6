use Rattle.std.proofs.Common.{◌≡◌, [], refl, arith}
use Rattle.lang_rules.specs.Rules.{method_faults}
use Rattle.lang_types.proofs.BlockSteps.{all_added, each_at, method_more, none_added, room_left}
use Rattle.lang_types.proofs.making.blocks.blocks_of.Goals as goal

pub push_blocks-requires-clause-few : goal.push_blocks-requires-clause-few
push_blocks-requires-clause-few c =
    room_left c.args.decls.now c.args.trees.now c.loop-number.number c.loop-number.blocks.items c.loop-number.known.items (omega arith) c.requires.few c.requires.fine c.loop-number.invariant

pub push_blocks-requires-clause-fine : goal.push_blocks-requires-clause-fine
push_blocks-requires-clause-fine c =
    each_at (λ tree. method_faults c.args.decls.now tree ≡ []) c.args.trees.now c.loop-number.number c.index-trees-number.result c.index-trees-number.is (omega arith) c.requires.fine

pub loop-number-init : goal.loop-number-init
loop-number-init c = none_added c.args.decls.now [] c.new-blocks.result.items [] c.args.known.now.items c.new-blocks.ensures.items c.requires.none

pub loop-number-preserved : goal.loop-number-preserved
loop-number-preserved c =
    method_more c.args.decls.now c.args.trees.now c.loop-number.number c.loop-number.number c.index-trees-number.result [] c.loop-number.blocks.items c.push_blocks.new.to.items [] c.loop-number.known.items c.push_blocks.new.known.items
    (omega arith) c.index-trees-number.is refl c.loop-number.invariant c.in_ok-push_blocks.ensures

pub returns-clause-blocks : goal.returns-clause-blocks
returns-clause-blocks c = (all_added c.args.decls.now c.args.trees.now c.loop-number.number c.loop-number.blocks.items c.loop-number.known.items (omega arith) c.loop-number.invariant).blocks_are

pub returns-clause-conditions : goal.returns-clause-conditions
returns-clause-conditions c = (all_added c.args.decls.now c.args.trees.now c.loop-number.number c.loop-number.blocks.items c.loop-number.known.items (omega arith) c.loop-number.invariant).conditions_are
