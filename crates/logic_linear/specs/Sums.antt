-- Sums of multiples of forms, and which of them keep within 128 bits.
use Rattle.std.specs.Prelude.{ℕ, ◌^◌, ℤ, pos, neg_ℤ, ◌+ℤ◌, ◌*ℤ◌, int_le, int_lt, Bool, ◌&&◌, ◌==◌}
use Rattle.std.specs.Prelude.{nat_lt, if◌then◌else◌, List, [], ◌∷◌, ◌++◌, Option, Some, None}
use Rattle.std.specs.List.{list_all}
use Rattle.std.specs.Ordering.{int_eq}
use Rattle.logic_linear.specs.declared.form.Term.{Term}
use Rattle.logic_linear.specs.Linear.{Linear}

-- ---- sums

-- A term, where its variable does not count 0 times.
abbrev pub term_of : ℕ → ℤ → List Term
term_of place times =
    if int_eq times (pos 0) then [] else (record { place = place; times = times } ∷ [])

-- Terms by rising place, in which the variable of a place counts so many times more.
abbrev pub with_term : ℕ → ℤ → List Term → List Term
with_term place times [] = term_of place times
with_term place times (term ∷ terms) =
    if nat_lt place term.place then term_of place times ++ (term ∷ terms)
    else if place == term.place then term_of place (term.times +ℤ times) ++ terms
    else (term ∷ with_term place times terms)

-- Terms, and so many times each of the others.
abbrev pub plus_multiple : ℤ → List Term → List Term → List Term
plus_multiple factor [] terms = terms
plus_multiple factor (other ∷ others) terms =
    with_term other.place (factor *ℤ other.times) (plus_multiple factor others terms)

-- So many times the left terms and so many times the right ones.
abbrev pub combined_terms : ℤ → List Term → ℤ → List Term → List Term
combined_terms left_times left right_times right =
    plus_multiple right_times right (plus_multiple left_times left [])

-- So many times the left form and so many times the right one.
abbrev pub sum_of_multiples : ℤ → Linear → ℤ → Linear → Linear
sum_of_multiples left_times left right_times right = record {
  terms = combined_terms left_times left.terms right_times right.terms;
  constant = left_times *ℤ left.constant +ℤ right_times *ℤ right.constant;
}

-- ---- 128 bits

-- A number from -2^127 to 2^127 - 1.
abbrev pub fits_128 : ℤ → Bool
fits_128 number = int_le (neg_ℤ (pos (2 ^ 127))) number && int_lt number (pos (2 ^ 127))

-- So many times the number of a term fits.
abbrev pub product_fits : ℤ → Term → Bool
product_fits factor term = fits_128 (factor *ℤ term.times)

-- The number of a term fits.
abbrev pub term_fits : Term → Bool
term_fits term = fits_128 term.times

-- Each product of a sum of multiples, and each number of the sum, fits.
abbrev pub terms_fit : ℤ → List Term → ℤ → List Term → Bool
terms_fit left_times left right_times right =
    list_all (product_fits left_times) left && (list_all (product_fits right_times) right
    && list_all term_fits (combined_terms left_times left right_times right))

-- The same of the sum's constant.
abbrev pub constants_fit : ℤ → ℤ → ℤ → ℤ → Bool
constants_fit left_times left right_times right =
    fits_128 (left_times *ℤ left) && (fits_128 (right_times *ℤ right)
    && fits_128 (left_times *ℤ left +ℤ right_times *ℤ right))

-- Each product of a sum of two forms' multiples, and each number of the sum, fits.
abbrev pub sum_fits : ℤ → Linear → ℤ → Linear → Bool
sum_fits left_times left right_times right =
    terms_fit left_times left.terms right_times right.terms
    && constants_fit left_times left.constant right_times right.constant

-- The sum of multiples of terms, where it fits.
abbrev pub fitting_sum : ℤ → List Term → ℤ → List Term → Option (List Term)
fitting_sum left_times left right_times right =
    if terms_fit left_times left right_times right
    then Some (combined_terms left_times left right_times right) else None
