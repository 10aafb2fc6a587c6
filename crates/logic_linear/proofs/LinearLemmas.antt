-- One less a form is a form again, and the test of two forms' terms and constants decides equality.
use Rattle.std.proofs.Common.{◌≡◌, ℕ, zero, suc, ◌<◌, Bool, true, get_or, length, sym, ◌∙◌, ℤ, pos, ◌-ℤ◌, List, [], ◌∷◌, map, arith, ap, refl}
use Rattle.std.specs.List.{list_all}
use Rattle.std.specs.Cmp.Lexicographic.{pointwise, pointwise_decides}
use Rattle.std.proofs.lemmas.Int.{ints}
use Rattle.std.proofs.lemmas.List.Elements.{All-map}
use Rattle.std.proofs.lemmas.List.Folds.{list_all-map}
use Rattle.logic_linear.specs.declared.form.Term.{Term}
use Rattle.logic_linear.specs.Linear.{Linear, IsLinear, IsTerm, place_of, same_linear, same_term}
use Rattle.logic_linear.specs.Negation.{can_negate_linear, can_negate_number, can_negate_term, negative_term}

-- What holds of all holds of each.
pub at_each : {X : Type 0} (test : X → Bool) (xs : List X) (i : ℕ) (d : X) → i < length xs → list_all test xs ≡ true → test (get_or xs i d) ≡ true
at_each test [] i d h e = absurd (omega arith)
at_each test (x ∷ xs) zero d h e = grind arith
at_each test (x ∷ xs) (suc i) d h e = let rest : list_all test xs ≡ true = grind arith in let here = at_each test xs i d (omega arith) rest in grind (arith, here)

-- The same of a list that was mapped by the test.
pub mapped_at : {X : Type 0} (test : X → Bool) (xs : List X) (i : ℕ) (d : X) → i < length xs → list_all (λ part. part) (map test xs) ≡ true → test (get_or xs i d) ≡ true
mapped_at test xs i d h e = at_each test xs i d h (sym (list_all-map (λ part. part) test xs) ∙ e)

places_stay : (terms : List Term) → map place_of (map negative_term terms) ≡ map place_of terms
places_stay [] = refl
places_stay (term ∷ terms) = ap (λ places. term.place ∷ places) (places_stay terms)

negative_is_term : (term : Term) → IsTerm term → can_negate_number term.times ≡ true → IsTerm (negative_term term)
negative_is_term term h e = record { nonzero = omega (arith, ints, h.nonzero); above = omega (arith, ints); below = omega (arith, ints) }

-- The parts of one less a form are a form's.
pub one_less_is_linear : (linear : Linear) (next : List Term) (number : ℤ) → IsLinear linear → can_negate_linear linear ≡ true → next ≡ map negative_term linear.terms → number ≡ pos 1 -ℤ linear.constant → IsLinear (record { terms = next; constant = number })
one_less_is_linear linear next number h e is number_is =
    let each : list_all can_negate_term linear.terms ≡ true = grind arith in
    let low : can_negate_number linear.constant ≡ true = grind arith in
    let above = h.above in
    let below = h.below in
    record {
      rising = rw (is, places_stay linear.terms) h.rising;
      each = rw is (All-map IsTerm negative_term linear.terms (λ k d l. negative_is_term _ (h.each k d l) (at_each can_negate_term linear.terms k d l each)));
      above = omega (arith, ints);
      below = omega (arith, ints);
    }

same_term_decides : (a b : Term) → (same_term a b ≡ true → a ≡ b) × (a ≡ b → same_term a b ≡ true)
same_term_decides a b = (λ h. grind (arith, ints), λ h. grind (arith, ints))

same_terms_decides : (a b : List Term) → (pointwise same_term a b ≡ true → a ≡ b) × (a ≡ b → pointwise same_term a b ≡ true)
same_terms_decides a b = pointwise_decides same_term_decides a b

-- The test of two forms is true exactly where they are the same.
pub same_linear_decides : (a b : Linear) → (same_linear a b ≡ true → a ≡ b) × (a ≡ b → same_linear a b ≡ true)
same_linear_decides a b = let terms = same_terms_decides a.terms b.terms in (λ h. grind (arith, ints, terms), λ h. grind (arith, ints, terms))
