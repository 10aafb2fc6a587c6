-- What one pass merges is the sum of multiples, and its places rise.
use Rattle.std.proofs.Common.{◌≡◌, ℕ, ◌+◌, ◌<◌, ◌≤◌, ℤ, pos, ◌+ℤ◌, ◌*ℤ◌, Bool, true, false, cond, List, [], ◌∷◌, ◌++◌, Option, Some, None, Result, Ok, Err, sym, arith, ap, refl, ◌∙◌}
use Rattle.std.specs.Prelude.{nat_lt, ◌==◌, ◌&&◌, IfSome, IfOk}
use Rattle.std.specs.List.{list_all, flat_map}
use Rattle.std.specs.declared.alloc.AllocError.{AllocError}
use Rattle.std.specs.Ordering.{int_eq}
use Rattle.std.proofs.lemmas.Bool.{and_parts}
use Rattle.logic_linear.specs.declared.form.Term.{Term}
use Rattle.logic_linear.specs.Linear.{IsRising}
use Rattle.logic_linear.specs.Substitution.{times_at, where_true}
use Rattle.logic_linear.specs.Sums.{term_of, with_term, plus_multiple, combined_terms, term_fits, product_fits, terms_fit, fitting_sum}
use Rattle.logic_linear.specs.Truth.{sum_of}
use Rattle.logic_linear.specs.inner.Merging.{multiple, merge_step, merged}
use Rattle.logic_linear.proofs.MergeLemmas.{multiples_fit}
use Rattle.logic_linear.proofs.RisingLemmas.{RisesFrom, rises_from_increasing, increasing_from_rises, term_of_rises, is_counted, term_of_counts, same_terms}
use Rattle.logic_linear.proofs.SumLemmas.{multiples_value, merged_value, combined_value, only, times_value}

-- ---- merged terms rise and count

multiples_rise : (low : ℕ) (k : ℤ) (terms : List Term) → RisesFrom low terms → RisesFrom low (flat_map (multiple k) terms)
multiples_rise low k [] h = tt
multiples_rise low k (term ∷ terms) h = term_of_rises low term.place (k *ℤ term.times) (flat_map (multiple k) terms) h.0 (multiples_rise (term.place + 1) k terms h.1)

step_rises : (low : ℕ) (k : ℤ) (term : Term) (terms : List Term) (rest : List Term → List Term) → ((low : ℕ) (others : List Term) → RisesFrom low terms → RisesFrom low others → RisesFrom low (rest others))
    → (others : List Term) → RisesFrom low (term ∷ terms) → RisesFrom low others → RisesFrom low (merge_step k term rest others)
step_rises low k term terms rest is [] h g = (h.0, is (term.place + 1) [] h.1 tt)
step_rises low k term terms rest is (other ∷ others) h g =
    by_test (nat_lt other.place term.place) (other.place == term.place) refl refl (λ l. step_rises (other.place + 1) k term terms rest is others (omega arith, h.1) g.1)
  where
    by_test : (below same : Bool) → nat_lt other.place term.place ≡ below → (other.place == term.place) ≡ same → (other.place < term.place → RisesFrom (other.place + 1) (merge_step k term rest others))
        → RisesFrom low (cond below (multiple k other ++ merge_step k term rest others) (cond same (term_of term.place (term.times +ℤ k *ℤ other.times) ++ rest others) (term ∷ rest (other ∷ others))))
    by_test true same e f before = term_of_rises low other.place (k *ℤ other.times) (merge_step k term rest others) g.0 (before (grind arith))
    by_test false true e f before = let here : other.place ≡ term.place = grind arith in term_of_rises low term.place (term.times +ℤ k *ℤ other.times) (rest others) h.0 (is (term.place + 1) others h.1 (rw here at g.1))
    by_test false false e f before = let here : term.place + 1 ≤ other.place = grind arith in (h.0, is (term.place + 1) (other ∷ others) h.1 (here, g.1))

pub merged_rises : (low : ℕ) (k : ℤ) (terms others : List Term) → RisesFrom low terms → RisesFrom low others → RisesFrom low (merged k terms others)
merged_rises low k [] others h g = multiples_rise low k others g
merged_rises low k (term ∷ terms) others h g = step_rises low k term terms (merged k terms) (λ low others. merged_rises low k terms others) others h g

multiples_count : (k : ℤ) (terms : List Term) → list_all is_counted (flat_map (multiple k) terms) ≡ true
multiples_count k [] = refl
multiples_count k (term ∷ terms) = term_of_counts term.place (k *ℤ term.times) (flat_map (multiple k) terms) (multiples_count k terms)

step_counts : (k : ℤ) (term : Term) (rest : List Term → List Term) → ((others : List Term) → list_all is_counted (rest others) ≡ true) → is_counted term ≡ true → (others : List Term) → list_all is_counted (merge_step k term rest others) ≡ true
step_counts k term rest is here [] = let more = is [] in grind (arith, here, more)
step_counts k term rest is here (other ∷ others) = by_test (step_counts k term rest is here others) (nat_lt other.place term.place) (other.place == term.place)
  where
    by_test : list_all is_counted (merge_step k term rest others) ≡ true → (below same : Bool)
        → list_all is_counted (cond below (multiple k other ++ merge_step k term rest others) (cond same (term_of term.place (term.times +ℤ k *ℤ other.times) ++ rest others) (term ∷ rest (other ∷ others)))) ≡ true
    by_test before true same = term_of_counts other.place (k *ℤ other.times) (merge_step k term rest others) before
    by_test before false true = term_of_counts term.place (term.times +ℤ k *ℤ other.times) (rest others) (is others)
    by_test before false false = let more = is (other ∷ others) in grind (arith, here, more)

pub merged_counts : (k : ℤ) (terms others : List Term) → list_all is_counted terms ≡ true → list_all is_counted (merged k terms others) ≡ true
merged_counts k [] others h = multiples_count k others
merged_counts k (term ∷ terms) others h = let both = and_parts (is_counted term) (list_all is_counted terms) h in step_counts k term (merged k terms) (λ others. merged_counts k terms others both.1) both.0 others

-- ---- combined terms rise and count

one_rises : (low place : ℕ) (times : ℤ) → low ≤ place → RisesFrom low (term_of place times)
one_rises low place times l = by_test (int_eq times (pos 0))
  where
    by_test : (test : Bool) → RisesFrom low (cond test [] (record { place = place; times = times } ∷ []))
    by_test true = tt
    by_test false = (l, tt)

with_term_rises : (low place : ℕ) (times : ℤ) (terms : List Term) → low ≤ place → RisesFrom low terms → RisesFrom low (with_term place times terms)
with_term_rises low place times [] l h = one_rises low place times l
with_term_rises low place times (term ∷ terms) l h = by_test (nat_lt place term.place) (place == term.place) refl refl (λ k. with_term_rises (term.place + 1) place times terms k h.1)
  where
    by_test : (below same : Bool) → nat_lt place term.place ≡ below → (place == term.place) ≡ same → (term.place + 1 ≤ place → RisesFrom (term.place + 1) (with_term place times terms))
        → RisesFrom low (cond below (term_of place times ++ (term ∷ terms)) (cond same (term_of place (term.times +ℤ times) ++ terms) (term ∷ with_term place times terms)))
    by_test true same e f after = let next : place + 1 ≤ term.place = grind arith in term_of_rises low place times (term ∷ terms) l (next, h.1)
    by_test false true e f after = let here : term.place ≡ place = grind arith in term_of_rises low place (term.times +ℤ times) terms l (rw here at h.1)
    by_test false false e f after = let next : term.place + 1 ≤ place = grind arith in (h.0, after next)

one_counts : (place : ℕ) (times : ℤ) → list_all is_counted (term_of place times) ≡ true
one_counts place times = by_test (int_eq times (pos 0)) refl
  where
    by_test : (test : Bool) → int_eq times (pos 0) ≡ test → list_all is_counted (cond test [] (record { place = place; times = times } ∷ [])) ≡ true
    by_test true e = refl
    by_test false e = grind (arith, e)

with_term_counts : (place : ℕ) (times : ℤ) (terms : List Term) → list_all is_counted terms ≡ true → list_all is_counted (with_term place times terms) ≡ true
with_term_counts place times [] h = one_counts place times
with_term_counts place times (term ∷ terms) h = let both = and_parts (is_counted term) (list_all is_counted terms) h in by_test both.0 both.1 (with_term_counts place times terms both.1) (nat_lt place term.place) (place == term.place)
  where
    by_test : is_counted term ≡ true → list_all is_counted terms ≡ true → list_all is_counted (with_term place times terms) ≡ true → (below same : Bool)
        → list_all is_counted (cond below (term_of place times ++ (term ∷ terms)) (cond same (term_of place (term.times +ℤ times) ++ terms) (term ∷ with_term place times terms))) ≡ true
    by_test here rest after true same = term_of_counts place times (term ∷ terms) (grind (arith, here, rest))
    by_test here rest after false true = term_of_counts place (term.times +ℤ times) terms rest
    by_test here rest after false false = grind (arith, here, after)

plus_multiple_rises : (k : ℤ) (others terms : List Term) (low : ℕ) → RisesFrom low others → RisesFrom 0 terms → RisesFrom 0 (plus_multiple k others terms)
plus_multiple_rises k [] terms low h g = g
plus_multiple_rises k (other ∷ others) terms low h g = with_term_rises 0 other.place (k *ℤ other.times) (plus_multiple k others terms) (omega arith) (plus_multiple_rises k others terms (other.place + 1) h.1 g)

plus_multiple_counts : (k : ℤ) (others terms : List Term) → list_all is_counted terms ≡ true → list_all is_counted (plus_multiple k others terms) ≡ true
plus_multiple_counts k [] terms h = h
plus_multiple_counts k (other ∷ others) terms h = with_term_counts other.place (k *ℤ other.times) (plus_multiple k others terms) (plus_multiple_counts k others terms h)

pub combined_rises : (a : ℤ) (left : List Term) (b : ℤ) (right : List Term) → RisesFrom 0 left → RisesFrom 0 right → RisesFrom 0 (combined_terms a left b right)
combined_rises a left b right h g = plus_multiple_rises b right (plus_multiple a left []) 0 g (plus_multiple_rises a left [] 0 h tt)

pub combined_counts : (a : ℤ) (left : List Term) (b : ℤ) (right : List Term) → list_all is_counted (combined_terms a left b right) ≡ true
combined_counts a left b right = plus_multiple_counts b right (plus_multiple a left []) (plus_multiple_counts a left [] refl)

-- ---- the two are one

pub rises : (terms : List Term) → IsRising terms → RisesFrom 0 terms
rises terms h = rises_from_increasing 0 terms h (λ term more e. omega arith)

-- How many times a place counts in a sum of multiples.
pub combined_times : (place : ℕ) (a : ℤ) (left : List Term) (b : ℤ) (right : List Term) → times_at place (combined_terms a left b right) ≡ a *ℤ times_at place left +ℤ b *ℤ times_at place right
combined_times place a left b right =
    sym (times_value place (combined_terms a left b right)) ∙ combined_value (only place) a left b right ∙ rw (times_value place left, times_value place right) refl

merged_times : (place : ℕ) (a : ℤ) (left : List Term) (b : ℤ) (right : List Term) → times_at place (merged b (flat_map (multiple a) left) right) ≡ a *ℤ times_at place left +ℤ b *ℤ times_at place right
merged_times place a left b right =
    sym (times_value place (merged b (flat_map (multiple a) left) right)) ∙ merged_value (only place) b (flat_map (multiple a) left) right
    ∙ ap (λ n. n +ℤ b *ℤ sum_of (only place) right) (multiples_value (only place) a left) ∙ rw (times_value place left, times_value place right) refl

pub merged_is_combined : (a : ℤ) (left : List Term) (b : ℤ) (right : List Term) → IsRising left → IsRising right → merged b (flat_map (multiple a) left) right ≡ combined_terms a left b right
merged_is_combined a left b right h g =
    same_terms 0 _ _ (merged_rises 0 b (flat_map (multiple a) left) right (multiples_rise 0 a left (rises left h)) (rises right g)) (combined_rises a left b right (rises left h) (rises right g))
    (merged_counts b (flat_map (multiple a) left) right (multiples_count a left)) (combined_counts a left b right) (λ place. merged_times place a left b right ∙ sym (combined_times place a left b right))

pub combined_is_rising : (a : ℤ) (left : List Term) (b : ℤ) (right : List Term) → IsRising left → IsRising right → IsRising (combined_terms a left b right)
combined_is_rising a left b right h g = increasing_from_rises 0 _ (combined_rises a left b right (rises left h) (rises right g))

-- ---- answers

three_hold : (a b c : Bool) → a ≡ true → b ≡ true → (a && (b && c)) ≡ c
three_hold a b c e f = rw (e, f) refl

-- A sum whose products fit is there where its numbers fit.
sum_is : (a : ℤ) (left : List Term) (b : ℤ) (right scaled old : List Term) (answer : Option (List Term)) → IsRising left → IsRising right → list_all (product_fits a) left ≡ true → list_all (product_fits b) right ≡ true
    → scaled ≡ old ++ flat_map (multiple a) left → old ≡ [] → answer ≡ where_true (list_all term_fits) (merged b scaled right) → answer ≡ fitting_sum a left b right
sum_is a left b right scaled old answer h g e f is empty k =
    let same : scaled ≡ flat_map (multiple a) left = is ∙ rw empty refl in
    k ∙ rw (same, merged_is_combined a left b right h g) refl
    ∙ ap (λ test. cond test (Some (combined_terms a left b right)) None) (sym (three_hold (list_all (product_fits a) left) (list_all (product_fits b) right) (list_all term_fits (combined_terms a left b right)) e f))

sum_rises : (a : ℤ) (left : List Term) (b : ℤ) (right : List Term) (answer : Option (List Term)) → IsRising left → IsRising right → answer ≡ fitting_sum a left b right → IfSome answer IsRising
sum_rises a left b right answer h g e = rw e (by_test (terms_fit a left b right))
  where
    by_test : (test : Bool) → IfSome (cond test (Some (combined_terms a left b right)) None) IsRising
    by_test true = combined_is_rising a left b right h g
    by_test false = tt

pub all_sums_are : (a : ℤ) (left : List Term) (b : ℤ) (right scaled slice old : List Term) (answer : Result (Option (List Term)) AllocError) → IsRising left → IsRising right → true ≡ list_all (product_fits a) left → true ≡ list_all (product_fits b) right
    → slice ≡ scaled → scaled ≡ old ++ flat_map (multiple a) left → old ≡ [] → IfOk answer (λ sum. sum ≡ where_true (list_all term_fits) (merged b slice right)) → IfOk answer (λ sum. sum ≡ fitting_sum a left b right)
all_sums_are a left b right scaled slice old (Ok sum) h g e f same is empty k = sum_is a left b right slice old sum h g (sym e) (sym f) (same ∙ is) empty k
all_sums_are a left b right scaled slice old (Err error) h g e f same is empty k = tt

pub all_sums_rise : (a : ℤ) (left : List Term) (b : ℤ) (right : List Term) (answer : Result (Option (List Term)) AllocError) → IsRising left → IsRising right → IfOk answer (λ sum. sum ≡ fitting_sum a left b right) → IfOk answer (λ sum. IfSome sum IsRising)
all_sums_rise a left b right (Ok sum) h g e = sum_rises a left b right sum h g e
all_sums_rise a left b right (Err error) h g e = tt

pub scaled_fit : (a : ℤ) (left scaled slice old : List Term) → true ≡ list_all (product_fits a) left → slice ≡ scaled → scaled ≡ old ++ flat_map (multiple a) left → old ≡ [] → list_all term_fits slice ≡ true
scaled_fit a left scaled slice old e same is empty = rw (same, is, empty) (multiples_fit a left (sym e))

pub left_misfits : (a : ℤ) (left : List Term) (b : ℤ) (right : List Term) → list_all (product_fits a) left ≡ false → None ≡ fitting_sum a left b right
left_misfits a left b right h = rw h refl

pub right_misfits : (a : ℤ) (left : List Term) (b : ℤ) (right : List Term) → list_all (product_fits b) right ≡ false → None ≡ fitting_sum a left b right
right_misfits a left b right h = by_left (list_all (product_fits a) left)
  where
    by_left : (test : Bool) → None ≡ cond (test && (list_all (product_fits b) right && list_all term_fits (combined_terms a left b right))) (Some (combined_terms a left b right)) None
    by_left true = rw h refl
    by_left false = refl
