use Rattle.std.proofs.Common.{◌≡◌, take}
use Rattle.std.specs.List.{flat_map}
use Rattle.lang_types.specs.Typed.{statement_of}
use Rattle.lang_types.proofs.making.statements.+statements_of.Given as goal

abbrev pub invariant-statements_of-loop-tree : goal.invariant-statements_of-loop-tree
invariant-statements_of-loop-tree l = l.made.items ≡ flat_map (statement_of l.scope) (take l.tree-index l.trees)
