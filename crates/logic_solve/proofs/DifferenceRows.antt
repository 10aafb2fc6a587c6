-- Difference rows, and sums of two in which a variable goes.
use Rattle.std.proofs.Common.{◌≡◌, ℕ, ◌<◌, ℤ, pos, neg_ℤ, ◌+ℤ◌, ◌-ℤ◌, ◌*ℤ◌, Bool, true, false, cond, ◌&&◌, List, [], ◌∷◌, Option, Some, None, sym, arith, ap, refl, ◌∙◌}
use Rattle.std.specs.Prelude.{nat_lt}
use Rattle.std.specs.List.{list_all}
use Rattle.std.proofs.lemmas.Int.{ints}
use Rattle.logic_linear.specs.declared.form.Term.{Term}
use Rattle.logic_linear.specs.Linear.{Linear}
use Rattle.logic_linear.specs.Truth.{Valuation, sum_of}
use Rattle.logic_linear.specs.Sums.{combined_terms, sum_fits, fits_128, product_fits, term_fits}
use Rattle.logic_linear.proofs.SumLemmas.{combined_value}
use Rattle.logic_solve.specs.inner.Differences.{once, minus_once, difference_terms}
use Rattle.logic_solve.proofs.Terms.{Counts, IsProper, combined_proper, one_at, proper_unique}

-- ---- which of two places is lower

pub data Order (a b : ℕ) : Type 0 where
  is_below : nat_lt a b ≡ true → a < b → Order a b
  is_above : nat_lt a b ≡ false → nat_lt b a ≡ true → b < a → Order a b
  is_same : nat_lt a b ≡ false → nat_lt b a ≡ false → a ≡ b → Order a b

order : (a b : ℕ) → Order a b
order a b = by_tests (nat_lt a b) (nat_lt b a) refl refl
  where
    by_tests : (less more : Bool) → nat_lt a b ≡ less → nat_lt b a ≡ more → Order a b
    by_tests true more e f = is_below e (grind arith)
    by_tests false true e f = is_above e f (grind arith)
    by_tests false false e f = is_same e f (grind arith)

-- What is true of each layout of the terms is true of the terms.
pub by_layout : (P : List Term → Type 0) (plus minus : ℕ) → (plus < minus → P (once plus ∷ minus_once minus ∷ [])) → (minus < plus → P (minus_once minus ∷ once plus ∷ [])) → (plus ≡ minus → P []) → P (difference_terms (Some plus) (Some minus))
by_layout P plus minus low high none = by_order (order plus minus)
  where
    chosen : (less more : Bool) → nat_lt plus minus ≡ less → nat_lt minus plus ≡ more → P (cond less (once plus ∷ minus_once minus ∷ []) (cond more (minus_once minus ∷ once plus ∷ []) [])) → P (difference_terms (Some plus) (Some minus))
    chosen less more e f p = rw (e, f) p

    by_order : Order plus minus → P (difference_terms (Some plus) (Some minus))
    by_order (is_below e h) = chosen true (nat_lt minus plus) e refl (low h)
    by_order (is_above e f h) = chosen false true e f (high h)
    by_order (is_same e f h) = chosen false false e f (none h)

-- ---- what the terms of a difference are worth

abbrev pub number_at : Valuation → Option ℕ → ℤ
number_at v None = pos 0
number_at v (Some place) = v.number place

pub difference_value : (v : Valuation) (plus minus : Option ℕ) → sum_of v (difference_terms plus minus) ≡ number_at v plus -ℤ number_at v minus
difference_value v None None = refl
difference_value v (Some plus) None = omega (arith, ints)
difference_value v None (Some minus) = omega (arith, ints)
difference_value v (Some plus) (Some minus) =
    by_layout (λ terms. sum_of v terms ≡ v.number plus -ℤ v.number minus) plus minus (λ h. two (v.number plus) (v.number minus)) (λ h. turned (v.number plus) (v.number minus)) (λ h. gone (v.number plus) (v.number minus) (ap v.number h))
  where
    two : (x y : ℤ) → pos 1 *ℤ x +ℤ (neg_ℤ (pos 1) *ℤ y +ℤ pos 0) ≡ x -ℤ y
    two x y = omega (arith, ints)

    turned : (x y : ℤ) → neg_ℤ (pos 1) *ℤ y +ℤ (pos 1 *ℤ x +ℤ pos 0) ≡ x -ℤ y
    turned x y = omega (arith, ints)

    gone : (x y : ℤ) → x ≡ y → pos 0 ≡ x -ℤ y
    gone x y h = omega (arith, ints)

one_counts : (place : ℕ) → Counts (once place)
one_counts place e = absurd (omega (arith, ints))

minus_one_counts : (place : ℕ) → Counts (minus_once place)
minus_one_counts place e = absurd (omega (arith, ints))

difference_proper : (plus minus : Option ℕ) → IsProper (difference_terms plus minus)
difference_proper None None = record { rises = tt; counts = tt }
difference_proper (Some plus) None = record { rises = (omega arith, tt); counts = (one_counts plus, tt) }
difference_proper None (Some minus) = record { rises = (omega arith, tt); counts = (minus_one_counts minus, tt) }
difference_proper (Some plus) (Some minus) =
    by_layout IsProper plus minus
    (λ h. let made : IsProper (once plus ∷ minus_once minus ∷ []) = record { rises = (omega arith, (omega arith, tt)); counts = (one_counts plus, (minus_one_counts minus, tt)) } in made)
    (λ h. let made : IsProper (minus_once minus ∷ once plus ∷ []) = record { rises = (omega arith, (omega arith, tt)); counts = (minus_one_counts minus, (one_counts plus, tt)) } in made)
    (λ h. let made : IsProper [] = record { rises = tt; counts = tt } in made)

-- ---- the sum

-- The variable in the middle goes.
pub sum_terms : (middle plus minus : Option ℕ) (upper lower : List Term) → upper ≡ difference_terms middle minus → lower ≡ difference_terms plus middle → combined_terms (pos 1) upper (pos 1) lower ≡ difference_terms plus minus
sum_terms middle plus minus upper lower up down =
    proper_unique _ _ (combined_proper (pos 1) upper (pos 1) lower) (difference_proper plus minus)
    (λ at. combined_value (one_at at) (pos 1) upper (pos 1) lower
    ∙ joined _ _ (number_at (one_at at) middle) (number_at (one_at at) plus) (number_at (one_at at) minus) (ap (sum_of (one_at at)) up ∙ difference_value (one_at at) middle minus) (ap (sum_of (one_at at)) down ∙ difference_value (one_at at) plus middle)
    ∙ sym (difference_value (one_at at) plus minus))
  where
    joined : (s t n p m : ℤ) → s ≡ n -ℤ m → t ≡ p -ℤ n → pos 1 *ℤ s +ℤ pos 1 *ℤ t ≡ p -ℤ m
    joined s t n p m e f = omega (arith, ints)

once_fits : (place : ℕ) → product_fits (pos 1) (once place) ≡ true
once_fits place = refl

minus_once_fits : (place : ℕ) → product_fits (pos 1) (minus_once place) ≡ true
minus_once_fits place = refl

products_fit : (plus minus : Option ℕ) → list_all (product_fits (pos 1)) (difference_terms plus minus) ≡ true
products_fit None None = refl
products_fit (Some plus) None = refl
products_fit None (Some minus) = refl
products_fit (Some plus) (Some minus) = by_layout (λ terms. list_all (product_fits (pos 1)) terms ≡ true) plus minus (λ h. refl) (λ h. refl) (λ h. refl)

difference_fits : (plus minus : Option ℕ) → list_all term_fits (difference_terms plus minus) ≡ true
difference_fits None None = refl
difference_fits (Some plus) None = refl
difference_fits None (Some minus) = refl
difference_fits (Some plus) (Some minus) = by_layout (λ terms. list_all term_fits terms ≡ true) plus minus (λ h. refl) (λ h. refl) (λ h. refl)

all_true : (a b c d e f : Bool) → a ≡ true → b ≡ true → c ≡ true → d ≡ true → e ≡ true → f ≡ true → ((a && (b && c)) && (d && (e && f))) ≡ true
all_true a b c d e f h i j k l m = rw (h, i, j, k, l, m) refl

once_fits_product : (x : ℤ) → fits_128 x ≡ true → fits_128 (pos 1 *ℤ x) ≡ true
once_fits_product x h = let e : pos 1 *ℤ x ≡ x = omega (arith, ints) in rw e h

-- The sum of two differences can be made where its constants fit.
pub sum_fits_of : (middle plus minus : Option ℕ) (upper lower : Linear) → upper.terms ≡ difference_terms middle minus → lower.terms ≡ difference_terms plus middle
    → fits_128 upper.constant ≡ true → fits_128 lower.constant ≡ true → fits_128 (pos 1 *ℤ upper.constant +ℤ pos 1 *ℤ lower.constant) ≡ true → sum_fits (pos 1) upper (pos 1) lower ≡ true
sum_fits_of middle plus minus upper lower up down one other both =
    all_true _ _ _ _ _ _
    (ap (list_all (product_fits (pos 1))) up ∙ products_fit middle minus)
    (ap (list_all (product_fits (pos 1))) down ∙ products_fit plus middle)
    (ap (list_all term_fits) (sum_terms middle plus minus upper.terms lower.terms up down) ∙ difference_fits plus minus)
    (once_fits_product upper.constant one)
    (once_fits_product lower.constant other)
    both
