use Rattle.std.proofs.Common.{arith, ◌∙◌}
use Rattle.logic_wp.proofs.BlockPaths.{many, few, block_negates, paths_made}
use Rattle.logic_wp.proofs.queries.paths_of.Goals as goal

pub returns-then-paths-gt-MOST_PATHS : goal.returns-then-paths-gt-MOST_PATHS
returns-then-paths-gt-MOST_PATHS c = many c.args.monitor.now c.args.block c.paths.result c.paths.ensures (omega arith)

pub paths_of_body-requires : goal.paths_of_body-requires
paths_of_body-requires c =
    block_negates c.args.monitor.now c.args.block c.blocks-2.result.now c.index-blocks-block.result c.items-body.result.now c.blocks-2.ensures.rule c.blocks-2.ensures.blocks c.requires c.items-body.ensures

pub returns : goal.returns
returns c =
    few c.args.monitor.now c.args.block c.paths.result c.of.result c.paths.ensures (omega arith)
    (c.of.ensures ∙ paths_made c.args.monitor.now c.args.block c.blocks-2.result.now c.index-blocks-block.result c.items-body.result.now c.in_ok-made.made.items c.blocks-2.ensures.blocks c.requires c.items-body.ensures c.in_ok-made.ensures)
