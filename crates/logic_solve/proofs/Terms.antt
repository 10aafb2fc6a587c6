-- Terms by rising place, in which no variable counts 0 times, are told apart by what each place
-- counts.
use Rattle.std.proofs.Common.{◌≡◌, ◌⊎◌, inl, inr, ℕ, ◌+◌, ◌<◌, ◌≤◌, ℤ, pos, ◌+ℤ◌, ◌*ℤ◌, Bool, true, false, cond, List, [], ◌∷◌, ◌++◌, sym, subst, arith, ap, refl, ◌∙◌}
use Rattle.std.specs.Prelude.{◌==◌, nat_lt}
use Rattle.std.specs.List.{AllByRecursion as Each}
use Rattle.std.specs.Ordering.{int_eq}
use Rattle.std.proofs.lemmas.Bool.{cases_lt}
use Rattle.std.proofs.lemmas.Int.{ints}
use Rattle.logic_linear.specs.declared.form.Term.{Term}
use Rattle.logic_linear.specs.Truth.{Valuation, sum_of}
use Rattle.logic_linear.specs.Sums.{term_of, with_term, plus_multiple, combined_terms}

abbrev pub Rises : ℕ → List Term → Type 0
Rises low [] = Unit {0}
Rises low (term ∷ terms) = (low ≤ term.place) × Rises (term.place + 1) terms

abbrev pub Counts : Term → Type 0
Counts term = term.times ≡ pos 0 → ⊥

pub record IsProper (terms : List Term) : Type 0 where
  pub rises : Rises 0 terms
  pub counts : Each Counts terms

-- ---- sums are proper

from_lower : (low high : ℕ) (terms : List Term) → low ≤ high → Rises high terms → Rises low terms
from_lower low high [] h rises = tt
from_lower low high (term ∷ terms) h rises = (let first = rises.0 in omega arith, rises.1)

term_rises : (low place : ℕ) (times : ℤ) (terms : List Term) → low ≤ place → Rises (place + 1) terms → Rises low (term_of place times ++ terms)
term_rises low place times terms h rises = by_test (int_eq times (pos 0))
  where
    by_test : (none : Bool) → Rises low (cond none [] (record { place = place; times = times } ∷ []) ++ terms)
    by_test true = from_lower low (place + 1) terms (omega arith) rises
    by_test false = (h, rises)

term_counts : (place : ℕ) (times : ℤ) (terms : List Term) → Each Counts terms → Each Counts (term_of place times ++ terms)
term_counts place times terms counts = by_test (int_eq times (pos 0)) refl
  where
    by_test : (none : Bool) → int_eq times (pos 0) ≡ none → Each Counts (cond none [] (record { place = place; times = times } ∷ []) ++ terms)
    by_test true e = counts
    by_test false e = (λ h. absurd (grind (arith, ints)), counts)

append_none : (terms : List Term) → terms ++ [] ≡ terms
append_none [] = refl
append_none (term ∷ terms) = ap (λ (more : List Term). term ∷ more) (append_none terms)

with_rises : (low place : ℕ) (times : ℤ) (terms : List Term) → low ≤ place → Rises low terms → Rises low (with_term place times terms)
with_rises low place times [] h rises = subst (Rises low) (append_none (term_of place times)) (term_rises low place times [] h tt)
with_rises low place times (term ∷ terms) h rises = by_tests (nat_lt place term.place) (place == term.place) refl refl (λ g. with_rises (term.place + 1) place times terms g rises.1)
  where
    by_tests : (below same : Bool) → nat_lt place term.place ≡ below → (place == term.place) ≡ same → (term.place + 1 ≤ place → Rises (term.place + 1) (with_term place times terms))
        → Rises low (cond below (term_of place times ++ (term ∷ terms)) (cond same (term_of place (term.times +ℤ times) ++ terms) (term ∷ with_term place times terms)))
    by_tests true same e f later = let here : place + 1 ≤ term.place = grind arith in term_rises low place times (term ∷ terms) h (here, rises.1)
    by_tests false true e f later = let here : term.place ≡ place = grind arith in term_rises low place (term.times +ℤ times) terms h (from_lower (place + 1) (term.place + 1) terms (omega arith) rises.1)
    by_tests false false e f later = let here : term.place + 1 ≤ place = grind arith in (rises.0, later here)

with_counts : (place : ℕ) (times : ℤ) (terms : List Term) → Each Counts terms → Each Counts (with_term place times terms)
with_counts place times [] counts = subst (Each Counts) (append_none (term_of place times)) (term_counts place times [] tt)
with_counts place times (term ∷ terms) counts = by_tests (nat_lt place term.place) (place == term.place) (with_counts place times terms counts.1)
  where
    by_tests : (below same : Bool) → Each Counts (with_term place times terms)
        → Each Counts (cond below (term_of place times ++ (term ∷ terms)) (cond same (term_of place (term.times +ℤ times) ++ terms) (term ∷ with_term place times terms)))
    by_tests true same later = term_counts place times (term ∷ terms) counts
    by_tests false true later = term_counts place (term.times +ℤ times) terms counts.1
    by_tests false false later = (counts.0, later)

plus_proper : (factor : ℤ) (others terms : List Term) → IsProper terms → IsProper (plus_multiple factor others terms)
plus_proper factor [] terms proper = proper
plus_proper factor (other ∷ others) terms proper =
    let rest = plus_proper factor others terms proper in
    record {
      rises = with_rises 0 other.place (factor *ℤ other.times) _ (omega arith) rest.rises;
      counts = with_counts other.place (factor *ℤ other.times) _ rest.counts;
    }

pub combined_proper : (a : ℤ) (left : List Term) (b : ℤ) (right : List Term) → IsProper (combined_terms a left b right)
combined_proper a left b right = plus_proper b right (plus_multiple a left []) (plus_proper a left [] (record { rises = tt; counts = tt }))

-- ---- what a place counts

-- The valuation in which one place is 1 and each other is 0: terms are worth what that place
-- counts.
abbrev pub one_at : ℕ → Valuation
one_at place = record { number = λ at. cond (at == place) (pos 1) (pos 0); flag = λ at. false }

other_place : (at place : ℕ) → (at ≡ place → ⊥) → cond (at == place) (pos 1) (pos 0) ≡ pos 0
other_place at place h = by_test (at == place) refl
  where
    by_test : (same : Bool) → (at == place) ≡ same → cond same (pos 1) (pos 0) ≡ pos 0
    by_test true e = absurd (h (let here : at ≡ place = grind arith in here))
    by_test false e = refl

same_place : (at : ℕ) → cond (at == at) (pos 1) (pos 0) ≡ pos 1
same_place at = by_test (at == at) refl
  where
    by_test : (same : Bool) → (at == at) ≡ same → cond same (pos 1) (pos 0) ≡ pos 1
    by_test true e = refl
    by_test false e = absurd (grind arith)

no_times : (t x s : ℤ) → x ≡ pos 0 → s ≡ pos 0 → t *ℤ x +ℤ s ≡ pos 0
no_times t x s h g = rw (h, g) (omega (arith, ints))

none_below : (low place : ℕ) (terms : List Term) → Rises low terms → place < low → sum_of (one_at place) terms ≡ pos 0
none_below low place [] rises h = refl
none_below low place (term ∷ terms) rises h =
    let first = rises.0 in
    no_times term.times _ _ (other_place term.place place (λ e. absurd (omega arith))) (none_below (term.place + 1) place terms rises.1 (omega arith))

one_time : (t x s : ℤ) → x ≡ pos 1 → s ≡ pos 0 → t *ℤ x +ℤ s ≡ t
one_time t x s h g = rw (h, g) (omega (arith, ints))

first_counts : (low : ℕ) (term : Term) (terms : List Term) → Rises low (term ∷ terms) → sum_of (one_at term.place) (term ∷ terms) ≡ term.times
first_counts low term terms rises = one_time term.times _ _ (same_place term.place) (none_below (term.place + 1) term.place terms rises.1 (omega arith))

same_rest : (t u x s r : ℤ) → t ≡ u → t *ℤ x +ℤ s ≡ u *ℤ x +ℤ r → s ≡ r
same_rest t u x s r h e = left t x s r (e ∙ ap (λ n. n *ℤ x +ℤ r) (sym h))
  where
    left : (t x s r : ℤ) → t *ℤ x +ℤ s ≡ t *ℤ x +ℤ r → s ≡ r
    left t x s r e = omega (arith, ints)

same_terms : (x y : Term) → x.place ≡ y.place → x.times ≡ y.times → x ≡ y
same_terms x y h g = λ i. record { place = h i; times = g i }

pub proper_same : (low : ℕ) (xs ys : List Term) → Rises low xs → Rises low ys → Each Counts xs → Each Counts ys → ((place : ℕ) → sum_of (one_at place) xs ≡ sum_of (one_at place) ys) → xs ≡ ys
proper_same low [] [] a b c d e = refl
proper_same low [] (y ∷ ys) a b c d e = absurd (d.0 (sym (first_counts low y ys b) ∙ sym (e y.place)))
proper_same low (x ∷ xs) [] a b c d e = absurd (c.0 (sym (first_counts low x xs a) ∙ e x.place))
proper_same low (x ∷ xs) (y ∷ ys) a b c d e =
    by_order (λ h g f. proper_same (x.place + 1) xs ys a.1 (subst (λ (at : ℕ). Rises (at + 1) ys) (sym h) b.1) c.1 d.1 f) (cases_lt x.place y.place) (cases_lt y.place x.place)
  where
    earlier : x.place < y.place → (x ∷ xs) ≡ (y ∷ ys)
    earlier h = absurd (c.0 (sym (first_counts low x xs a) ∙ e x.place ∙ none_below y.place x.place (y ∷ ys) (omega arith, b.1) h))

    later : y.place < x.place → (x ∷ xs) ≡ (y ∷ ys)
    later h = absurd (d.0 (sym (first_counts low y ys b) ∙ sym (e y.place) ∙ none_below x.place y.place (x ∷ xs) (omega arith, a.1) h))

    here : ((h : x.place ≡ y.place) → x.times ≡ y.times → ((place : ℕ) → sum_of (one_at place) xs ≡ sum_of (one_at place) ys) → xs ≡ ys) → x.place ≡ y.place → (x ∷ xs) ≡ (y ∷ ys)
    here rest h =
        let times : x.times ≡ y.times = sym (first_counts low x xs a) ∙ e x.place ∙ ap (λ (at : ℕ). sum_of (one_at at) (y ∷ ys)) h ∙ first_counts low y ys b in
        let more = rest h times (λ place. same_rest x.times y.times (cond (x.place == place) (pos 1) (pos 0)) _ _ times (e place ∙ ap (λ (at : ℕ). y.times *ℤ cond (at == place) (pos 1) (pos 0) +ℤ sum_of (one_at place) ys) (sym h))) in
        let first = same_terms x y h times in
        cc

    by_order : ((h : x.place ≡ y.place) → x.times ≡ y.times → ((place : ℕ) → sum_of (one_at place) xs ≡ sum_of (one_at place) ys) → xs ≡ ys)
        → (x.place < y.place) ⊎ (y.place ≤ x.place) → (y.place < x.place) ⊎ (x.place ≤ y.place) → (x ∷ xs) ≡ (y ∷ ys)
    by_order rest (inl h) g = earlier h
    by_order rest (inr h) (inl g) = later g
    by_order rest (inr h) (inr g) = here rest (omega arith)

pub proper_unique : (xs ys : List Term) → IsProper xs → IsProper ys → ((place : ℕ) → sum_of (one_at place) xs ≡ sum_of (one_at place) ys) → xs ≡ ys
proper_unique xs ys x y e = proper_same 0 xs ys x.rises y.rises x.counts y.counts e
