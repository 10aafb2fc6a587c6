use Rattle.std.proofs.Common.{◌≡◌, take}
use Rattle.logic_linear.specs.Truth.{sum_of}
use Rattle.logic_solve.specs.Solutions.{valuation_of}
use Rattle.logic_solve.proofs.evaluate.terms_value.Given as goal

abbrev pub invariant-loop-term : goal.invariant-loop-term
invariant-loop-term l = l.sum ≡ sum_of (valuation_of l.at) (take l.term-index l.terms)
