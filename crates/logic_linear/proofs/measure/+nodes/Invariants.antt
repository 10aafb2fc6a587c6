use Rattle.std.proofs.Common.{◌≡◌, ◌+◌, take, map, min, sum}
use Rattle.logic_linear.specs.Measures.{nodes_of, MOST_NODES}
use Rattle.logic_linear.proofs.measure.+nodes.Given as goal

abbrev pub invariant-nodes_of_parts-loop-part : goal.invariant-nodes_of_parts-loop-part
invariant-nodes_of_parts-loop-part l = l.total ≡ min (1 + sum (map nodes_of (take l.part-index l.parts))) (MOST_NODES + 1)
