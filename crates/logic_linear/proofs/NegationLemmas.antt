-- A negation is true exactly where the formula is not.
use Rattle.std.proofs.Common.{◌≡◌, ℤ, pos, ◌+ℤ◌, ◌-ℤ◌, ◌*ℤ◌, neg_ℤ, Bool, true, false, not, cond, List, [], ◌∷◌, map, sym, subst, arith, ap, refl, ◌∙◌}
use Rattle.std.specs.Prelude.{int_le}
use Rattle.std.specs.List.{list_all, list_any}
use Rattle.std.proofs.lemmas.Int.{ints}
use Rattle.logic_linear.specs.declared.form.Term.{Term}
use Rattle.logic_linear.specs.declared.formula.Formula.{Formula}
use Rattle.logic_linear.specs.declared.formula.Formula.TheOpen.{Formula-F, Row, Flag, All as Each, Any as Some}
use Rattle.logic_linear.specs.declared.formula.Formula.TheViews.{roll-Formula}
use Rattle.logic_linear.specs.declared.formula.Formula.TheFolds.{ind-Formula, map-Formula, fold-roll-Formula}
use Rattle.logic_linear.specs.Linear.{Linear}
use Rattle.logic_linear.specs.Truth.{Valuation, layer_truth, sum_of, truth_of, value_of}
use Rattle.logic_linear.specs.Negation.{layer_negation, negation, negative_term, one_less, opposite}

negative_sum : (t x s r : ℤ) → r ≡ neg_ℤ s → neg_ℤ t *ℤ x +ℤ r ≡ neg_ℤ (t *ℤ x +ℤ s)
negative_sum t x s r h = grind (arith, ints)

sum_of_negatives : (valuation : Valuation) (terms : List Term) → sum_of valuation (map negative_term terms) ≡ neg_ℤ (sum_of valuation terms)
sum_of_negatives valuation [] = refl
sum_of_negatives valuation (term ∷ terms) = negative_sum term.times (valuation.number term.place) _ _ (sum_of_negatives valuation terms)

-- One less a form has one less its value.
pub value_of_one_less : (valuation : Valuation) (linear : Linear) → value_of valuation (one_less linear) ≡ pos 1 -ℤ value_of valuation linear
value_of_one_less valuation linear = omega (arith, ints, sum_of_negatives valuation linear.terms)

row_flips : (a b : ℤ) → a ≡ pos 1 -ℤ b → int_le a (pos 0) ≡ not (int_le b (pos 0))
row_flips a b h = grind (arith, ints)

flag_flips : (wanted given : Bool) → cond (not wanted) given (not given) ≡ not (cond wanted given (not given))
flag_flips true true = refl
flag_flips true false = refl
flag_flips false true = refl
flag_flips false false = refl

abbrev Flips : Valuation → Formula → Type 0
Flips valuation formula = truth_of valuation (negation formula) ≡ not (truth_of valuation formula)

all_flips : (valuation : Valuation) (parts : List ((formula : Formula) × Flips valuation formula)) → list_any (λ part. part) (map (truth_of valuation) (map negation (map (λ part. part.0) parts))) ≡ not (list_all (λ part. part) (map (truth_of valuation) (map (λ part. part.0) parts)))
all_flips valuation [] = refl
all_flips valuation (part ∷ parts) = grind (arith, part.1, all_flips valuation parts)

any_flips : (valuation : Valuation) (parts : List ((formula : Formula) × Flips valuation formula)) → list_all (λ part. part) (map (truth_of valuation) (map negation (map (λ part. part.0) parts))) ≡ not (list_any (λ part. part) (map (truth_of valuation) (map (λ part. part.0) parts)))
any_flips valuation [] = refl
any_flips valuation (part ∷ parts) = grind (arith, part.1, any_flips valuation parts)

-- The turned layer of negations is true exactly where the layer is not.
abbrev LayerFlips : Valuation → Formula-F Formula → Type 0
LayerFlips valuation layer =
    layer_truth valuation (map-Formula _ Bool (truth_of valuation) (opposite (map-Formula _ Formula negation layer))) ≡ not (layer_truth valuation (map-Formula _ Bool (truth_of valuation) layer))

layer_flips : (valuation : Valuation) (layer : Formula-F ((formula : Formula) × Flips valuation formula)) → LayerFlips valuation (map-Formula _ Formula (λ part. part.0) layer)
layer_flips valuation (Row linear) = row_flips _ (value_of valuation linear) (value_of_one_less valuation linear)
layer_flips valuation (Flag place wanted) = flag_flips wanted (valuation.flag place)
layer_flips valuation (Each parts) = all_flips valuation parts
layer_flips valuation (Some parts) = any_flips valuation parts

formula_flips : (valuation : Valuation) (layer : Formula-F Formula) → LayerFlips valuation layer → Flips valuation (roll-Formula layer)
formula_flips valuation layer flips = ap (truth_of valuation) (fold-roll-Formula Formula layer_negation layer) ∙ fold-roll-Formula Bool (layer_truth valuation) (opposite (map-Formula _ Formula negation layer)) ∙ flips ∙ ap not (sym (fold-roll-Formula Bool (layer_truth valuation) layer))

-- A negation is true exactly where the formula is not, by induction on its layers.
pub negation_flips : (valuation : Valuation) (formula : Formula) → Flips valuation formula
negation_flips valuation = ind-Formula (Flips valuation) (λ layer parts is. formula_flips valuation layer (subst (LayerFlips valuation) is (layer_flips valuation parts)))
