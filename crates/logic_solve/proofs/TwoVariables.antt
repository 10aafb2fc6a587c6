-- Difference rows as differences of two variables.
use Rattle.std.proofs.Common.{◌≡◌, ℕ, zero, ◌<◌, pos, neg_ℤ, Bool, true, false, ◌&&◌, ◌||◌, List, [], ◌∷◌, map, Option, Some, None, sym, arith, ap, refl, ◌∙◌}
use Rattle.std.specs.Prelude.{nat_lt}
use Rattle.std.specs.List.{list_any}
use Rattle.std.specs.List.Sorted.{IsStrictlyIncreasing}
use Rattle.std.specs.Ordering.{int_eq}
use Rattle.std.specs.Cmp.Lexicographic.{pointwise}
use Rattle.std.proofs.lemmas.Int.{ints}
use Rattle.logic_linear.specs.declared.form.Term.{Term}
use Rattle.logic_linear.specs.Linear.{place_of}
use Rattle.logic_linear.specs.Differences.{difference_numbers, times_of}
use Rattle.logic_solve.specs.inner.Differences.{once, minus_once, difference_terms}

pub record IsDifferenceOf (terms : List Term) : Type 0 where
  pub plus : Option ℕ
  pub minus : Option ℕ
  pub same : terms ≡ difference_terms plus minus

is_once : (term : Term) → int_eq term.times (pos 1) ≡ true → term ≡ once term.place
is_once term e = let times : term.times ≡ pos 1 = grind (arith, ints) in λ i. record { place = term.place; times = times i }

is_minus_once : (term : Term) → int_eq term.times (neg_ℤ (pos 1)) ≡ true → term ≡ minus_once term.place
is_minus_once term e = let times : term.times ≡ neg_ℤ (pos 1) = grind (arith, ints) in λ i. record { place = term.place; times = times i }

no_more : (a b c d : Bool) → (false || ((a && false) || ((b && false) || ((a && (d && false)) || ((b && (c && false)) || false))))) ≡ true → ⊥
no_more true true true true e = absurd cc
no_more true true true false e = absurd cc
no_more true true false true e = absurd cc
no_more true true false false e = absurd cc
no_more true false true true e = absurd cc
no_more true false true false e = absurd cc
no_more true false false true e = absurd cc
no_more true false false false e = absurd cc
no_more false true true true e = absurd cc
no_more false true true false e = absurd cc
no_more false true false true e = absurd cc
no_more false true false false e = absurd cc
no_more false false true true e = absurd cc
no_more false false true false e = absurd cc
no_more false false false true e = absurd cc
no_more false false false false e = absurd cc

pub low_first : (p q : ℕ) → p < q → difference_terms (Some p) (Some q) ≡ once p ∷ minus_once q ∷ []
low_first p q h = let e : nat_lt p q ≡ true = grind arith in rw e refl

pub high_first : (p q : ℕ) → p < q → difference_terms (Some q) (Some p) ≡ minus_once p ∷ once q ∷ []
high_first p q h = let e : nat_lt q p ≡ false = grind arith in let f : nat_lt p q ≡ true = grind arith in rw (e, f) refl

rising_pair : (x y : ℕ) (xs : List ℕ) → IsStrictlyIncreasing (x ∷ y ∷ xs) → x < y
rising_pair x y xs h = h zero (omega arith)

two_same : (t u a b : Term) → t ≡ a → u ≡ b → t ∷ u ∷ [] ≡ a ∷ b ∷ []
two_same t u a b h g = cc

pub difference_of : (terms : List Term) → IsStrictlyIncreasing (map place_of terms) → list_any (pointwise int_eq (map times_of terms)) difference_numbers ≡ true → IsDifferenceOf terms
difference_of [] rising is = record { plus = None; minus = None; same = refl }
difference_of (t ∷ []) rising is = by_tests (int_eq t.times (pos 1)) (int_eq t.times (neg_ℤ (pos 1))) refl refl is
  where
    by_tests : (a b : Bool) → int_eq t.times (pos 1) ≡ a → int_eq t.times (neg_ℤ (pos 1)) ≡ b → (false || ((a && true) || ((b && true) || ((a && false) || ((b && false) || false))))) ≡ true → IsDifferenceOf (t ∷ [])
    by_tests true b e f i = record { plus = Some t.place; minus = None; same = ap (λ (term : Term). term ∷ []) (is_once t e) }
    by_tests false true e f i = record { plus = None; minus = Some t.place; same = ap (λ (term : Term). term ∷ []) (is_minus_once t f) }
    by_tests false false e f i = absurd cc
difference_of (t ∷ u ∷ []) rising is = by_tests (int_eq t.times (pos 1)) (int_eq t.times (neg_ℤ (pos 1))) (int_eq u.times (pos 1)) (int_eq u.times (neg_ℤ (pos 1))) refl refl refl refl is
  where
    below : t.place < u.place
    below = rising_pair t.place u.place [] rising

    plus_first : int_eq t.times (pos 1) ≡ true → int_eq u.times (neg_ℤ (pos 1)) ≡ true → IsDifferenceOf (t ∷ u ∷ [])
    plus_first e h = record {
      plus = Some t.place;
      minus = Some u.place;
      same = two_same t u (once t.place) (minus_once u.place) (is_once t e) (is_minus_once u h) ∙ sym (low_first t.place u.place below);
    }

    minus_first : int_eq t.times (neg_ℤ (pos 1)) ≡ true → int_eq u.times (pos 1) ≡ true → IsDifferenceOf (t ∷ u ∷ [])
    minus_first f g = record {
      plus = Some u.place;
      minus = Some t.place;
      same = two_same t u (minus_once t.place) (once u.place) (is_minus_once t f) (is_once u g) ∙ sym (high_first t.place u.place below);
    }

    by_tests : (a b c d : Bool) → int_eq t.times (pos 1) ≡ a → int_eq t.times (neg_ℤ (pos 1)) ≡ b → int_eq u.times (pos 1) ≡ c → int_eq u.times (neg_ℤ (pos 1)) ≡ d
        → (false || ((a && false) || ((b && false) || ((a && (d && true)) || ((b && (c && true)) || false))))) ≡ true → IsDifferenceOf (t ∷ u ∷ [])
    by_tests true true true true e f g h i = plus_first e h
    by_tests true true true false e f g h i = minus_first f g
    by_tests true true false true e f g h i = plus_first e h
    by_tests true true false false e f g h i = absurd cc
    by_tests true false true true e f g h i = plus_first e h
    by_tests true false true false e f g h i = absurd cc
    by_tests true false false true e f g h i = plus_first e h
    by_tests true false false false e f g h i = absurd cc
    by_tests false true true true e f g h i = minus_first f g
    by_tests false true true false e f g h i = minus_first f g
    by_tests false true false true e f g h i = absurd cc
    by_tests false true false false e f g h i = absurd cc
    by_tests false false true true e f g h i = absurd cc
    by_tests false false true false e f g h i = absurd cc
    by_tests false false false true e f g h i = absurd cc
    by_tests false false false false e f g h i = absurd cc
difference_of (t ∷ u ∷ w ∷ terms) rising is = absurd (no_more (int_eq t.times (pos 1)) (int_eq t.times (neg_ℤ (pos 1))) (int_eq u.times (pos 1)) (int_eq u.times (neg_ℤ (pos 1))) is)
