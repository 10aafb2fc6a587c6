use Rattle.std.proofs.Common.{◌≡◌, take, true}
use Rattle.std.specs.List.{list_all}
use Rattle.logic_linear.specs.Sums.{product_fits}
use Rattle.logic_linear.proofs.sums.products_fit.Given as goal

abbrev pub invariant-loop-term : goal.invariant-loop-term
invariant-loop-term l = list_all (product_fits l.fn.factor) (take l.term-index l.terms) ≡ true
