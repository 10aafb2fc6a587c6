use Rattle.std.proofs.Common.{◌≡◌, true, map}
use Rattle.lang_forms.specs.Forms.{is_limited}
use Rattle.lang_forms.specs.inner.Parts.{factor_sense}
use Rattle.lang_forms.specs.Sense.{product_faults}
use Rattle.lang_forms.proofs.WholeFaults.{from_factor}
use Rattle.lang_forms.proofs.whole_fault.fault_of_factors.Given as goal

abbrev pub invariant-loop-factor : goal.invariant-loop-factor
invariant-loop-factor l = record {
  limited : is_limited l.product ≡ true;
  same : product_faults l.at l.initial.product (map (factor_sense l.scope) l.rest) ≡ from_factor l.scope l.at l.product l.rest l.factor-index;
}
