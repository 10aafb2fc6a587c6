-- Terms by rising place whose variables count are told apart by how many times each place counts.
use Rattle.std.proofs.Common.{◌≡◌, ℕ, zero, suc, ◌+◌, ◌<◌, ◌≤◌, ℤ, pos, ◌+ℤ◌, Bool, true, false, not, cond, List, [], ◌∷◌, ◌++◌, map, length, get_or, drop, sym, arith, ap, refl, ◌∙◌, ⊎_elim}
use Rattle.std.specs.Prelude.{◌==◌, All}
use Rattle.std.specs.List.{list_all, filter}
use Rattle.std.specs.List.Sorted.{IsStrictlyIncreasing}
use Rattle.std.specs.Ordering.{int_eq}
use Rattle.std.proofs.lemmas.Bool.{and_parts, cases_lt}
use Rattle.std.proofs.lemmas.Int.{ints}
use native.Mathlib.Numerals.{unary_clauses}
use Rattle.logic_linear.specs.declared.form.Term.{Term}
use Rattle.logic_linear.specs.Linear.{Linear, IsLinear, IsTerm, place_of}
use Rattle.logic_linear.specs.Substitution.{times_at, is_other, is_in_range, has_term_in_range}
use Rattle.logic_linear.specs.Sums.{term_of}
use Rattle.logic_linear.proofs.LinearLemmas.{at_each}

-- ---- rising places

abbrev pub RisesFrom : ℕ → List Term → Type 0
RisesFrom low [] = Unit {0}
RisesFrom low (term ∷ terms) = (low ≤ term.place) × RisesFrom (term.place + 1) terms

increasing_tail : (x : ℕ) (xs : List ℕ) → IsStrictlyIncreasing (x ∷ xs) → IsStrictlyIncreasing xs
increasing_tail x xs h k l = let e = h (suc k) (omega arith) in simp unary_clauses (simp unary_clauses at e)

increasing_head : (x y : ℕ) (xs : List ℕ) → IsStrictlyIncreasing (x ∷ y ∷ xs) → x < y
increasing_head x y xs h = h zero (omega arith)

increasing_cons : (x y : ℕ) (xs : List ℕ) → x < y → IsStrictlyIncreasing (y ∷ xs) → IsStrictlyIncreasing (x ∷ y ∷ xs)
increasing_cons x y xs l h zero b = l
increasing_cons x y xs l h (suc k) b = let e = h k (omega arith) in simp unary_clauses (simp unary_clauses at e)

pub rises_from_increasing : (low : ℕ) (terms : List Term) → IsStrictlyIncreasing (map place_of terms) → ((first : Term) (more : List Term) → terms ≡ first ∷ more → low ≤ first.place) → RisesFrom low terms
rises_from_increasing low [] h b = tt
rises_from_increasing low (term ∷ []) h b = (b term [] refl, tt)
rises_from_increasing low (term ∷ next ∷ terms) h b = (
  b term (next ∷ terms) refl,
  rises_from_increasing (term.place + 1) (next ∷ terms) (increasing_tail term.place (map place_of (next ∷ terms)) h)
      (λ first more e. let same : first ≡ next = cc in let below = increasing_head term.place next.place (map place_of terms) h in rw same (omega arith)),
)

pub increasing_from_rises : (low : ℕ) (terms : List Term) → RisesFrom low terms → IsStrictlyIncreasing (map place_of terms)
increasing_from_rises low [] h = λ k l. absurd (omega arith)
increasing_from_rises low (term ∷ []) h = λ k l. absurd (omega arith)
increasing_from_rises low (term ∷ next ∷ terms) h =
    let below = h.1.0 in
    increasing_cons term.place next.place (map place_of terms) (omega arith) (increasing_from_rises (term.place + 1) (next ∷ terms) h.1)

pub lower : (low high : ℕ) (terms : List Term) → low ≤ high → RisesFrom high terms → RisesFrom low terms
lower low high [] l h = tt
lower low high (term ∷ terms) l h = let here = h.0 in (omega arith, h.1)

pub term_of_rises : (low place : ℕ) (times : ℤ) (more : List Term) → low ≤ place → RisesFrom (place + 1) more → RisesFrom low (term_of place times ++ more)
term_of_rises low place times more l h = by_test (int_eq times (pos 0))
  where
    by_test : (test : Bool) → RisesFrom low (cond test [] (record { place = place; times = times } ∷ []) ++ more)
    by_test true = lower low (place + 1) more (omega arith) h
    by_test false = (l, h)

-- The terms of the other places.
abbrev pub others_of : ℕ → List Term → List Term
others_of place terms = filter (is_other place) terms

pub others_rise : (low place : ℕ) (terms : List Term) → RisesFrom low terms → RisesFrom low (others_of place terms)
others_rise low place [] h = tt
others_rise low place (term ∷ terms) h = by_test (others_rise (term.place + 1) place terms h.1) (term.place == place)
  where
    by_test : RisesFrom (term.place + 1) (others_of place terms) → (same : Bool) → RisesFrom low (cond (not same) (term ∷ others_of place terms) (others_of place terms))
    by_test rest true = let here = h.0 in lower low (term.place + 1) (others_of place terms) (omega arith) rest
    by_test rest false = (h.0, rest)

pub linear_rises : (form : Linear) → IsLinear form → RisesFrom 0 form.terms
linear_rises form h = rises_from_increasing 0 form.terms h.rising (λ term more e. omega arith)

-- ---- no number is 0

abbrev pub is_counted : Term → Bool
is_counted term = not (int_eq term.times (pos 0))

pub term_of_counts : (place : ℕ) (times : ℤ) (more : List Term) → list_all is_counted more ≡ true → list_all is_counted (term_of place times ++ more) ≡ true
term_of_counts place times more h = by_test (int_eq times (pos 0)) refl
  where
    by_test : (test : Bool) → int_eq times (pos 0) ≡ test → list_all is_counted (cond test [] (record { place = place; times = times } ∷ []) ++ more) ≡ true
    by_test true e = h
    by_test false e = grind (arith, h, e)

pub others_count : (place : ℕ) (terms : List Term) → list_all is_counted terms ≡ true → list_all is_counted (others_of place terms) ≡ true
others_count place [] h = refl
others_count place (term ∷ terms) h = let both = and_parts (is_counted term) (list_all is_counted terms) h in by_test both.0 (others_count place terms both.1) (term.place == place)
  where
    by_test : is_counted term ≡ true → list_all is_counted (others_of place terms) ≡ true → (same : Bool) → list_all is_counted (cond (not same) (term ∷ others_of place terms) (others_of place terms)) ≡ true
    by_test here rest true = rest
    by_test here rest false = grind (arith, here, rest)

pub each_in_range : (terms : List Term) → All IsTerm terms → list_all has_term_in_range terms ≡ true
each_in_range [] h = refl
each_in_range (term ∷ terms) h = let here = h zero term (omega arith) in let above = here.above in let below = here.below in let rest = each_in_range terms (λ k d l. h (suc k) d (omega arith)) in let one : is_in_range term.times ≡ true = grind (arith, ints) in grind (arith, one, rest)

pub each_counted : (terms : List Term) → All IsTerm terms → list_all is_counted terms ≡ true
each_counted [] h = refl
each_counted (term ∷ terms) h = let here = h zero term (omega arith) in let no = here.nonzero in let rest = each_counted terms (λ k d l. h (suc k) d (omega arith)) in let one : is_counted term ≡ true = grind (arith, ints) in grind (arith, one, rest)

term_from_tests : (term : Term) → has_term_in_range term ≡ true → is_counted term ≡ true → IsTerm term
term_from_tests term h e = record { nonzero = λ z. let no : is_counted term ≡ false = rw z refl in cc; above = grind (arith, ints); below = grind (arith, ints) }

pub terms_from_tests : (terms : List Term) → list_all has_term_in_range terms ≡ true → list_all is_counted terms ≡ true → All IsTerm terms
terms_from_tests terms h e k d l = term_from_tests _ (at_each has_term_in_range terms k d l h) (at_each is_counted terms k d l e)

-- ---- the times of a place

pub no_times : (low place : ℕ) (terms : List Term) → RisesFrom low terms → place < low → times_at place terms ≡ pos 0
no_times low place [] h l = refl
no_times low place (term ∷ terms) h l = let here = h.0 in second_times (term.place == place) (grind arith) ∙ no_times (term.place + 1) place terms h.1 (omega arith)
  where
    second_times : (test : Bool) → test ≡ false → cond test (term.times +ℤ times_at place terms) (times_at place terms) ≡ times_at place terms
    second_times test e = rw e refl

pub found_times : (low place : ℕ) (terms : List Term) (i : ℕ) (d : Term) → RisesFrom low terms → i < length terms → (get_or terms i d).place ≡ place → times_at place (drop i terms) ≡ (get_or terms i d).times
found_times low place [] i d h l e = absurd (omega arith)
found_times low place (term ∷ terms) zero d h l e = first_times (term.place == place) (grind arith) ∙ ap (λ n. term.times +ℤ n) (no_times (term.place + 1) place terms h.1 (omega arith)) ∙ plus_nothing term.times
  where
    first_times : (test : Bool) → test ≡ true → cond test (term.times +ℤ times_at place terms) (times_at place terms) ≡ term.times +ℤ times_at place terms
    first_times test e = rw e refl

    plus_nothing : (z : ℤ) → z +ℤ pos 0 ≡ z
    plus_nothing z = omega (arith, ints)
found_times low place (term ∷ terms) (suc i) d h l e = found_times (term.place + 1) place terms i d h.1 (omega arith) e

pub found_at : (place : ℕ) (form : Linear) (items : List Term) (i : ℕ) (d : Term) → IsLinear form → items ≡ form.terms → i < length items → (get_or items i d).place ≡ place → times_at place (drop i form.terms) ≡ times_at place form.terms
    → (get_or items i d).times ≡ times_at place form.terms
found_at place form items i d h is l e so_far = sym (found_times 0 place items i d (rw is (linear_rises form h)) l e) ∙ ap (λ n. times_at place (drop i n)) is ∙ so_far

pub times_here : (low : ℕ) (term : Term) (terms : List Term) → RisesFrom low (term ∷ terms) → times_at term.place (term ∷ terms) ≡ term.times
times_here low term terms h = found_times low term.place (term ∷ terms) zero term h (omega arith) refl

times_below : (place : ℕ) (term : Term) (terms : List Term) → RisesFrom (term.place + 1) terms → place < term.place → times_at place (term ∷ terms) ≡ pos 0
times_below place term terms h l = no_times term.place place (term ∷ terms) (omega arith, h) l

pub times_after : (place : ℕ) (term : Term) (terms : List Term) → (term.place ≡ place → ⊥) → times_at place (term ∷ terms) ≡ times_at place terms
times_after place term terms h = by_test (term.place == place) (grind (arith, h))
  where
    by_test : (test : Bool) → test ≡ false → cond test (term.times +ℤ times_at place terms) (times_at place terms) ≡ times_at place terms
    by_test test e = rw e refl

not_zero : (term : Term) (terms : List Term) → list_all is_counted (term ∷ terms) ≡ true → term.times ≡ pos 0 → ⊥
not_zero term terms h z = let one = (and_parts (is_counted term) (list_all is_counted terms) h).0 in let no : is_counted term ≡ false = rw z refl in cc

same_term_lists : (x y : Term) (xs ys : List Term) → x.place ≡ y.place → x.times ≡ y.times → xs ≡ ys → x ∷ xs ≡ y ∷ ys
same_term_lists x y xs ys e f g = λ i. record { place = e i; times = f i } ∷ g i

-- Two such lists in which each place counts as many times are one list.
pub same_terms : (low : ℕ) (xs ys : List Term) → RisesFrom low xs → RisesFrom low ys → list_all is_counted xs ≡ true → list_all is_counted ys ≡ true → ((place : ℕ) → times_at place xs ≡ times_at place ys) → xs ≡ ys
same_terms low [] [] h g c d e = refl
same_terms low [] (y ∷ ys) h g c d e = absurd (not_zero y ys d (sym (e y.place ∙ times_here low y ys g)))
same_terms low (x ∷ xs) [] h g c d e = absurd (not_zero x xs c (sym (times_here low x xs h) ∙ e x.place))
same_terms low (x ∷ xs) (y ∷ ys) h g c d e =
    ⊎_elim (λ (first : x.place < y.place). absurd (not_zero x xs c (sym (times_here low x xs h) ∙ e x.place ∙ times_below x.place y ys g.1 first)))
    (λ (later : y.place ≤ x.place). ⊎_elim (λ (second : y.place < x.place). absurd (not_zero y ys d (sym (times_here low y ys g) ∙ sym (e y.place) ∙ times_below y.place x xs h.1 second)))
    (λ (sooner : x.place ≤ y.place). let here : x.place ≡ y.place = omega arith in
    same_term_lists x y xs ys here (sym (times_here low x xs h) ∙ e x.place ∙ ap (λ n. times_at n (y ∷ ys)) here ∙ times_here low y ys g)
    (same_terms (x.place + 1) xs ys h.1 (rw here g.1) (and_parts (is_counted x) (list_all is_counted xs) c).1 (and_parts (is_counted y) (list_all is_counted ys) d).1 (rest here)))
    (cases_lt y.place x.place))
    (cases_lt x.place y.place)
  where
    rest : x.place ≡ y.place → (place : ℕ) → times_at place xs ≡ times_at place ys
    rest here place =
        ⊎_elim (λ (low : place < x.place + 1). no_times (x.place + 1) place xs h.1 low ∙ sym (no_times (y.place + 1) place ys g.1 (omega arith)))
        (λ (high : x.place + 1 ≤ place). sym (times_after place x xs (λ same. omega arith)) ∙ e place ∙ times_after place y ys (λ same. omega arith))
        (cases_lt place (x.place + 1))
