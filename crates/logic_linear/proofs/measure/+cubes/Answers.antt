use Rattle.logic_linear.proofs.MeasureLemmas.{product_more}
use Rattle.logic_linear.proofs.measure.+cubes.Goals as goal

pub product_of_cubes-loop-part-preserved : goal.product_of_cubes-loop-part-preserved
product_of_cubes-loop-part-preserved t c = product_more c.args.parts.now c.loop-part.part-index c.part-item.result c.loop-part.total c.cubes.result c.limited_product-total.result c.loop-part-test.true c.part-item.is c.loop-part.invariant c.cubes.ensures c.limited_product-total.ensures
