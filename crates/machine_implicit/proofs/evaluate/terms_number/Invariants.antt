use Rattle.std.proofs.Common.{◌≡◌, ◌*◌, ◌^◌, take, pos, neg_ℤ, ◌≤ℤ◌}
use Rattle.logic_linear.specs.Truth.{sum_of}
use Rattle.lang_monitor.specs.Bodies.{valuation}
use Rattle.machine_implicit.specs.inner.Held.{given}
use Rattle.machine_implicit.proofs.evaluate.terms_number.Given as goal

abbrev pub invariant-loop-term : goal.invariant-loop-term
invariant-loop-term l = record {
  so_far : l.sum ≡ sum_of (valuation l.state (given l.inputs l.locals)) (take l.term-index l.terms);
  above : neg_ℤ (pos (l.term-index * 2 ^ 94)) ≤ℤ l.sum;
  below : l.sum ≤ℤ pos (l.term-index * 2 ^ 94);
}
