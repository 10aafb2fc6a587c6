use Rattle.std.proofs.Common.{◌≡◌, ◌≤◌, length, drop, ◌++◌, true}
use Rattle.std.specs.List.{list_all}
use Rattle.logic_linear.specs.inner.Merging.{merged}
use Rattle.logic_linear.specs.Sums.{term_fits}
use Rattle.logic_linear.proofs.sums.merged.Given as goal

abbrev pub invariant-loop-term : goal.invariant-loop-term
invariant-loop-term l = record {
  here : l.sums.items ++ merged l.fn.factor (drop l.term-index l.terms) (drop l.next l.others) ≡ merged l.fn.factor l.terms l.others;
  fits : list_all term_fits l.sums.items ≡ true;
  within : l.next ≤ length l.others;
}
