use Rattle.std.proofs.Common.{◌≡◌, drop, ◌++◌, true, List}
use Rattle.std.specs.List.{list_all}
use Rattle.logic_linear.specs.declared.form.Term.{Term}
use Rattle.logic_linear.specs.inner.Merging.{merge_step}
use Rattle.logic_linear.specs.Sums.{term_fits}
use Rattle.logic_linear.proofs.sums.merge_term.Given as goal

abbrev pub invariant-loop-index : goal.invariant-loop-index
invariant-loop-index l = record {
  same : (rest : List Term → List Term) → l.fn.sums.items ++ merge_step l.fn.factor l.term rest l.others ≡ l.sums.items ++ merge_step l.fn.factor l.term rest (drop l.index l.others);
  fits : list_all term_fits l.sums.items ≡ true;
}
