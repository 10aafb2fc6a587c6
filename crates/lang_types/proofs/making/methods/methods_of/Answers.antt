use Rattle.lang_types.specs.inner.Making.{HasSmallParts}
use Rattle.lang_types.proofs.BlockSteps.{each_at, methods_more}
use Rattle.lang_types.proofs.making.methods.methods_of.Goals as goal

pub loop-tree-preserved : goal.loop-tree-preserved
loop-tree-preserved c =
    methods_more c.args.trees.now c.loop-tree.tree-index c.tree-item.result c.loop-tree.methods.items c.push.new.self.items c.loop-tree.first c.in_ok-method.method c.loop-tree-test.true c.tree-item.is c.loop-tree.invariant
    (each_at HasSmallParts c.args.trees.now c.loop-tree.tree-index c.tree-item.result c.tree-item.is c.loop-tree-test.true c.requires.small) c.in_ok-method.ensures c.in_ok-push.ensures.items
