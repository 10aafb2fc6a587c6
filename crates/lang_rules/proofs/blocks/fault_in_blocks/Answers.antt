use Rattle.std.proofs.Common.{arith, rules}
use Rattle.lang_rules.specs.Rules.{block_faults}
use Rattle.lang_base.proofs.Least.{least_all, least_turn}
use Rattle.lang_base.specs.SourceFaults.{order}
use Rattle.lang_rules.proofs.blocks.fault_in_blocks.Goals as goal

pub loop-block-preserved : goal.loop-block-preserved
loop-block-preserved c =
    least_turn order (block_faults c.args.scope.now) c.args.blocks.now c.loop-block.block-index c.block-item.result _ _ _ (search rules) c.block-item.is c.loop-block.invariant c.in_ok-fault_in_block.ensures c.earlier_of-fault.ensures

pub returns : goal.returns
returns c = least_all order (block_faults c.args.scope.now) c.args.blocks.now c.loop-block.block-index _ (omega arith) c.loop-block.invariant
