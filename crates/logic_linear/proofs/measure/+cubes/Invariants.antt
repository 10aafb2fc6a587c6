use Rattle.std.proofs.Common.{◌≡◌, ◌+◌, take, map, min, sum}
use Rattle.logic_linear.specs.Measures.{cubes_of, product, MOST_CUBES}
use Rattle.logic_linear.proofs.measure.+cubes.Given as goal

abbrev pub invariant-product_of_cubes-loop-part : goal.invariant-product_of_cubes-loop-part
invariant-product_of_cubes-loop-part l = l.total ≡ min (product (map cubes_of (take l.part-index l.parts))) (MOST_CUBES + 1)

abbrev pub invariant-sum_of_cubes-loop-part : goal.invariant-sum_of_cubes-loop-part
invariant-sum_of_cubes-loop-part l = l.total ≡ min (sum (map cubes_of (take l.part-index l.parts))) (MOST_CUBES + 1)
