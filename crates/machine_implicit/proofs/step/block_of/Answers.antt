use Rattle.machine_implicit.proofs.Placed.{placed_at}
use Rattle.machine_implicit.proofs.step.block_of.Goals as goal

pub returns-clause-placed : goal.returns-clause-placed
returns-clause-placed c =
    placed_at c.args.monitor.now c.blocks-2.result.now c.args.block c.index-blocks-block.result c.blocks-2.ensures.rule c.blocks-2.ensures.blocks c.index-blocks-block.is c.requires
