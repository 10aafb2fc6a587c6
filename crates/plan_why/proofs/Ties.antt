-- A form in the place that is tied to it.
use Rattle.std.proofs.Common.{◌≡◌, ℕ, ◌+◌, ◌<◌, ◌≤◌, ℤ, Bool, true, false, ◌&&◌, cond, List, [], ◌∷◌, ◌++◌, length, map, get_or, Option, Some, None, ap, subst, sym, arith, refl, ◌∙◌}
use Rattle.std.specs.Prelude.{All, nat_le, neg_ℤ, pos, ◌≤ℤ◌, ◌<ℤ◌}
use Rattle.std.specs.List.Sorted.{IsStrictlyIncreasing}
use Rattle.std.proofs.lemmas.Bool.{and_parts, leb-true}
use Rattle.std.proofs.lemmas.List.{get_or_append_left, length_push, map_push}
use Rattle.logic_linear.specs.declared.form.Term.{Term}
use Rattle.logic_linear.specs.declared.formula.Formula.{Formula}
use Rattle.logic_linear.specs.declared.substitution.Put.{Put}
use Rattle.logic_linear.specs.declared.substitution.Put.TheVariants.{Number}
use Rattle.logic_linear.specs.Linear.{FORM_BOUND, Linear, IsLinear, IsRising, IsTerm, place_of}
use Rattle.logic_linear.specs.Measures.{nodes_of, MOST_NODES}
use Rattle.logic_linear.specs.Substitution.{assigned, is_formula_in_range, is_formula_within, substituted, within_limits}
use Rattle.logic_linear.specs.Truth.{Valuation, truth_of, value_of}
use Rattle.plan_why.specs.inner.Running.{with_number}

-- ---- a form without its last term

rising_front : (xs : List ℕ) (y : ℕ) → IsStrictlyIncreasing (xs ++ y ∷ []) → IsStrictlyIncreasing xs
rising_front xs y rising k within =
    let above : get_or (xs ++ y ∷ []) k 0 < get_or (xs ++ y ∷ []) (k + 1) 0 = rising k (omega (arith, length_push xs y, within)) in
    let low : k < length xs = omega (arith, within) in
    subst (λ (n : ℕ). n < get_or xs (k + 1) 0) (get_or_append_left xs (y ∷ []) 0 k low)
    (subst (λ (n : ℕ). get_or (xs ++ y ∷ []) k 0 < n) (get_or_append_left xs (y ∷ []) 0 (k + 1) within) above)

each_front : {X : Type 0} (P : X → Type 0) (xs : List X) (y : X) → All P (xs ++ y ∷ []) → All P xs
each_front P xs y each k d within = subst P (get_or_append_left xs (y ∷ []) d k within) (each k d (omega (arith, length_push xs y, within)))

pub front_linear : (row : Linear) (all front : List Term) (last : Term) (constant : ℤ) → IsLinear row → all ≡ row.terms → all ≡ front ++ last ∷ [] → constant ≡ row.constant → IsLinear (record { terms = front; constant = constant })
front_linear row all front last constant rule same split is =
    let terms : row.terms ≡ front ++ last ∷ [] = sym same ∙ split in
    record {
      rising = rising_front (map place_of front) (place_of last) (subst IsStrictlyIncreasing (map_push place_of front last) (subst IsRising terms rule.rising));
      each = each_front IsTerm front last (subst (All IsTerm) terms rule.each);
      above = subst (λ (n : ℤ). neg_ℤ (pos FORM_BOUND) ≤ℤ n) (sym is) rule.above;
      below = subst (λ (n : ℤ). n <ℤ pos FORM_BOUND) (sym is) rule.below;
    }

-- ---- a formula with a form in a place

where_within : (test : Bool) (made tied : Formula) → Some tied ≡ cond test (Some made) None → (test ≡ true) × (tied ≡ made)
where_within true made tied e = (refl, cc)
where_within false made tied e = absurd cc

pub tied_within : (put : Put) (formula tied : Formula) → Some tied ≡ within_limits (substituted put formula) → nodes_of tied ≤ MOST_NODES
tied_within put formula tied e =
    let (within, same) = where_within (is_formula_within (substituted put formula)) (substituted put formula) tied e in
    let few = leb-true (nodes_of (substituted put formula)) MOST_NODES (and_parts (is_formula_in_range (substituted put formula)) (nat_le (nodes_of (substituted put formula)) MOST_NODES) within).1 in
    subst (λ (one : Formula). nodes_of one ≤ MOST_NODES) (sym same) few

-- the law that a substitution keeps truth
abbrev pub SubstitutionKeepsTruth : Type 0
SubstitutionKeepsTruth = (put : Put) (valuation : Valuation) (formula : Formula) → truth_of valuation (substituted put formula) ≡ truth_of (assigned put valuation) formula

pub valued : (place : ℕ) (form : Linear) (v next : Valuation) (number : ℤ) → number ≡ value_of v form → next ≡ with_number place number v → next ≡ with_number place (value_of v form) v
valued place form v next number worth put = put ∙ ap (λ (n : ℤ). with_number place n v) worth

-- what solves the formula with the form in the place solves it with the form's value there
pub tied_solves : SubstitutionKeepsTruth → (place : ℕ) (form other : Linear) (formula tied : Formula) (v before : Valuation) → Some tied ≡ within_limits (substituted (Number place form) formula) → form ≡ other → truth_of v tied ≡ true
    → before ≡ with_number place (value_of v other) v → truth_of before formula ≡ true
tied_solves law place form other formula tied v before made copied solves put =
    let (within, same) = where_within (is_formula_within (substituted (Number place form) formula)) (substituted (Number place form) formula) tied made in
    ap (λ (w : Valuation). truth_of w formula) (put ∙ ap (λ (one : Linear). with_number place (value_of v one) v) (sym copied))
    ∙ sym (law (Number place form) v formula) ∙ ap (truth_of v) (sym same) ∙ solves
