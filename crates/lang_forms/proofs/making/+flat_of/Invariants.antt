use Rattle.std.proofs.Common.{◌≡◌, ℕ, ◌+◌, true, [], map, take, drop}
use Rattle.lang_forms.specs.Forms.{is_limited}
use Rattle.lang_forms.specs.inner.FormBounds.{AreWithin, IsFormOf}
use Rattle.lang_forms.specs.Sense.{product_faults, product_form, sum_form}
use Rattle.lang_forms.specs.inner.Parts.{addend_sense, factor_sense}
use Rattle.lang_forms.proofs.making.+flat_of.Given as goal

abbrev pub invariant-multiply_all-loop-factor : goal.invariant-multiply_all-loop-factor
invariant-multiply_all-loop-factor l = record {
  done : l.product ≡ product_form l.initial.product (map (factor_sense l.scope) (take l.factor-index l.rest));
  limited : is_limited l.product ≡ true;
  fine : (at : ℕ) × product_faults at l.product (map (factor_sense l.scope) (drop l.factor-index l.rest)) ≡ [];
}

abbrev pub invariant-add_all-loop-addend : goal.invariant-add_all-loop-addend
invariant-add_all-loop-addend l = record {
  done : l.sum ≡ sum_form l.initial.sum (map (addend_sense l.scope) (take l.addend-index l.rest));
  of_scope : IsFormOf l.scope l.sum;
  within : AreWithin (l.addend-index + 1) l.sum;
}
