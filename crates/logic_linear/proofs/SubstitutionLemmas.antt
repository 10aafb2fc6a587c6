-- A form in which another stands for a variable has the value after the assignment, and a formula
-- that truth.
use Rattle.std.proofs.Common.{◌≡◌, ℕ, ℤ, pos, ◌+ℤ◌, ◌*ℤ◌, Bool, true, false, not, cond, List, [], ◌∷◌, map, sym, subst, arith, ap, refl, ◌∙◌}
use Rattle.std.specs.Prelude.{int_le, ◌==◌, if◌then◌else◌}
use Rattle.std.specs.List.{list_all, list_any}
use Rattle.std.proofs.lemmas.Int.{ints}
use Rattle.logic_linear.specs.declared.form.Term.{Term}
use Rattle.logic_linear.specs.declared.formula.Formula.{Formula}
use Rattle.logic_linear.specs.declared.formula.Formula.TheOpen.{Formula-F, Row, Flag, All as Each, Any as Some}
use Rattle.logic_linear.specs.declared.formula.Formula.TheViews.{roll-Formula}
use Rattle.logic_linear.specs.declared.formula.Formula.TheFolds.{ind-Formula, map-Formula, fold-roll-Formula}
use Rattle.logic_linear.specs.declared.substitution.Put.{Put}
use Rattle.logic_linear.specs.declared.substitution.Put.TheVariants.{Number, Truth}
use Rattle.logic_linear.specs.Linear.{Linear}
use Rattle.logic_linear.specs.Truth.{Valuation, layer_truth, sum_of, truth_of, value_of}
use Rattle.logic_linear.specs.Negation.{negation}
use Rattle.logic_linear.specs.Substitution.{assigned, times_at, without, replaced, put_in_layer, substituted}
use Rattle.logic_linear.proofs.NegationLemmas.{negation_flips}
use Rattle.logic_linear.proofs.RisingLemmas.{others_of}
use Rattle.logic_linear.proofs.SumLemmas.{add_times, sum_value}

-- ---- a form after an assignment

abbrev pub at_place : ℕ → ℤ → Valuation → Valuation
at_place place x v = record { number = λ at. if at == place then x else v.number at; flag = v.flag }

here_value : (x t u s r : ℤ) → r ≡ u *ℤ x +ℤ s → t *ℤ x +ℤ r ≡ (t +ℤ u) *ℤ x +ℤ s
here_value x t u s r h = let e = add_times t u x in omega (arith, ints)

there_value : (a u s r : ℤ) → r ≡ u +ℤ s → a +ℤ r ≡ u +ℤ (a +ℤ s)
there_value a u s r h = omega (arith, ints)

pub split_value : (v : Valuation) (place : ℕ) (x : ℤ) (terms : List Term) → sum_of (at_place place x v) terms ≡ times_at place terms *ℤ x +ℤ sum_of v (others_of place terms)
split_value v place x [] = omega (arith, ints)
split_value v place x (term ∷ terms) = by_test (split_value v place x terms) (term.place == place)
  where
    by_test : sum_of (at_place place x v) terms ≡ times_at place terms *ℤ x +ℤ sum_of v (others_of place terms) → (same : Bool) → term.times *ℤ cond same x (v.number term.place) +ℤ sum_of (at_place place x v) terms
        ≡ cond same (term.times +ℤ times_at place terms) (times_at place terms) *ℤ x +ℤ sum_of v (cond (not same) (term ∷ others_of place terms) (others_of place terms))
    by_test before true = here_value x term.times (times_at place terms) (sum_of v (others_of place terms)) (sum_of (at_place place x v) terms) before
    by_test before false = there_value (term.times *ℤ v.number term.place) (times_at place terms *ℤ x) (sum_of v (others_of place terms)) (sum_of (at_place place x v) terms) before

whole_value : (k x s c l : ℤ) → l ≡ k *ℤ x +ℤ s → pos 1 *ℤ (s +ℤ c) +ℤ k *ℤ x ≡ l +ℤ c
whole_value k x s c l h = omega (arith, ints)

-- The form has the value that the other has after the assignment.
pub replaced_value : (v : Valuation) (place : ℕ) (by form : Linear) → value_of v (replaced place by form) ≡ value_of (assigned (Number place by) v) form
replaced_value v place by form =
    sum_value v (pos 1) (without place form) (times_at place form.terms) by
    ∙ whole_value (times_at place form.terms) (value_of v by) (sum_of v (others_of place form.terms)) form.constant _ (split_value v place (value_of v by) form.terms)

-- ---- a formula after an assignment

abbrev Keeps : Put → Valuation → Formula → Type 0
Keeps put v formula = truth_of v (substituted put formula) ≡ truth_of (assigned put v) formula

all_keep : (put : Put) (v : Valuation) (parts : List ((formula : Formula) × Keeps put v formula)) → list_all (λ part. part) (map (truth_of v) (map (substituted put) (map (λ part. part.0) parts))) ≡ list_all (λ part. part) (map (truth_of (assigned put v)) (map (λ part. part.0) parts))
all_keep put v [] = refl
all_keep put v (part ∷ parts) = grind (arith, part.1, all_keep put v parts)

any_keep : (put : Put) (v : Valuation) (parts : List ((formula : Formula) × Keeps put v formula)) → list_any (λ part. part) (map (truth_of v) (map (substituted put) (map (λ part. part.0) parts))) ≡ list_any (λ part. part) (map (truth_of (assigned put v)) (map (λ part. part.0) parts))
any_keep put v [] = refl
any_keep put v (part ∷ parts) = grind (arith, part.1, any_keep put v parts)

abbrev LayerKeeps : Put → Valuation → Formula-F Formula → Type 0
LayerKeeps put v layer = truth_of v (put_in_layer put (map-Formula _ Formula (substituted put) layer)) ≡ layer_truth (assigned put v) (map-Formula _ Bool (truth_of (assigned put v)) layer)

rolled : (v : Valuation) (layer : Formula-F Formula) → truth_of v (roll-Formula layer) ≡ layer_truth v (map-Formula _ Bool (truth_of v) layer)
rolled v layer = fold-roll-Formula Bool (layer_truth v) layer

row_keeps : (put : Put) (v : Valuation) (linear : Linear) → LayerKeeps put v (Row linear)
row_keeps (Number place by) v linear = rolled v (Row (replaced place by linear)) ∙ ap (λ n. int_le n (pos 0)) (replaced_value v place by linear)
row_keeps (Truth place is) v linear = rolled v (Row linear)

flag_keeps : (put : Put) (v : Valuation) (at : ℕ) (wanted : Bool) → LayerKeeps put v (Flag at wanted)
flag_keeps (Number place by) v at wanted = rolled v (Flag at wanted)
flag_keeps (Truth place is) v at wanted = by_test (at == place) wanted
  where
    by_test : (same : Bool) (wanted : Bool) → truth_of v (cond same (cond wanted is (negation is)) (roll-Formula (Flag at wanted))) ≡ cond wanted (cond same (truth_of v is) (v.flag at)) (not (cond same (truth_of v is) (v.flag at)))
    by_test true true = refl
    by_test true false = negation_flips v is
    by_test false wanted = rolled v (Flag at wanted)

each_keeps : (put : Put) (v : Valuation) (parts : List ((formula : Formula) × Keeps put v formula)) → LayerKeeps put v (Each (map (λ part. part.0) parts))
each_keeps put v parts = rolled v (Each (map (substituted put) (map (λ part. part.0) parts))) ∙ all_keep put v parts

some_keeps : (put : Put) (v : Valuation) (parts : List ((formula : Formula) × Keeps put v formula)) → LayerKeeps put v (Some (map (λ part. part.0) parts))
some_keeps put v parts = rolled v (Some (map (substituted put) (map (λ part. part.0) parts))) ∙ any_keep put v parts

layer_keeps : (put : Put) (v : Valuation) (layer : Formula-F ((formula : Formula) × Keeps put v formula)) → LayerKeeps put v (map-Formula _ Formula (λ part. part.0) layer)
layer_keeps put v (Row linear) = row_keeps put v linear
layer_keeps put v (Flag at wanted) = flag_keeps put v at wanted
layer_keeps put v (Each parts) = each_keeps put v parts
layer_keeps put v (Some parts) = some_keeps put v parts

formula_keeps : (put : Put) (v : Valuation) (layer : Formula-F Formula) → LayerKeeps put v layer → Keeps put v (roll-Formula layer)
formula_keeps put v layer keeps = ap (truth_of v) (fold-roll-Formula Formula (put_in_layer put) layer) ∙ keeps ∙ sym (rolled (assigned put v) layer)

-- A substituted formula is true exactly where the formula is after the assignment.
pub substitution_keeps : (put : Put) (v : Valuation) (formula : Formula) → Keeps put v formula
substitution_keeps put v = ind-Formula (Keeps put v) (λ layer parts is. formula_keeps put v layer (subst (LayerKeeps put v) is (layer_keeps put v parts)))
