use Rattle.std.proofs.Common.{◌≡◌, map, take}
use Rattle.lang_forms.specs.Sense.{sense}
use Rattle.lang_forms.proofs.making.+formula_of.Given as goal

abbrev pub invariant-formulas_of-loop-part : goal.invariant-formulas_of-loop-part
invariant-formulas_of-loop-part l = l.formulas.items ≡ map (λ part. (sense l.scope part).formula) (take l.part-index l.parts)
