use Rattle.std.proofs.Common.{◌≡◌, map, take}
use Rattle.lang_script.specs.Scripts.{client_of}
use Rattle.lang_script.proofs.making.make_clients.Given as goal

abbrev pub invariant-loop-tree : goal.invariant-loop-tree
invariant-loop-tree l = l.made.items ≡ map (client_of l.monitor) (take l.tree-index l.trees)
