use Rattle.std.proofs.Common.{take}
use Rattle.lang_types.proofs.BlockSteps.{MethodsMade}
use Rattle.lang_types.proofs.making.methods.methods_of.Given as goal

abbrev pub invariant-loop-tree : goal.invariant-loop-tree
invariant-loop-tree l = MethodsMade (take l.tree-index l.trees) l.methods.items l.first
