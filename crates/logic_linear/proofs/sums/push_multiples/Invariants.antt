use Rattle.std.proofs.Common.{◌≡◌, take, ◌++◌}
use Rattle.logic_linear.specs.inner.Merging.{multiples}
use Rattle.logic_linear.proofs.sums.push_multiples.Given as goal

abbrev pub invariant-loop-term : goal.invariant-loop-term
invariant-loop-term l = l.sums.items ≡ l.fn.sums.items ++ multiples l.fn.factor (take l.term-index l.terms)
