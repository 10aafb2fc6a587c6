use Rattle.std.proofs.Common.{◌≡◌, map, take}
use Rattle.logic_solve.specs.inner.Facts.{moved_sum}
use Rattle.logic_solve.proofs.facts.moved_chain.Given as goal

abbrev pub invariant-loop-sum : goal.invariant-loop-sum
invariant-loop-sum l = l.sums.items ≡ map (moved_sum l.numbers l.count) (take l.sum-index l.chain)
