use Rattle.std.proofs.Common.{◌≡◌, ◌+◌, take, map, min}
use Rattle.logic_linear.specs.Measures.{MOST_NODES}
use Rattle.logic_linear.specs.Substitution.{substituted}
use Rattle.logic_linear.specs.inner.Limited.{nodes_of_all}
use Rattle.logic_linear.proofs.substitution.+nodes_after.Given as goal

abbrev pub invariant-nodes_of_parts_after-loop-part : goal.invariant-nodes_of_parts_after-loop-part
invariant-nodes_of_parts_after-loop-part l = l.total ≡ min (nodes_of_all (map (substituted l.put) (take l.part-index l.parts))) (MOST_NODES + 1)
