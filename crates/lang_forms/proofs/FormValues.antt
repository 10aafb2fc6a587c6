-- What flattened forms are worth, and that sums, multiples and products of forms are worth what
-- they say.
use Rattle.std.proofs.Common.{◌≡◌, ℕ, zero, suc, ◌*◌, Bool, true, false, ◌||◌, cond, ℤ, pos, neg_ℤ, ◌+ℤ◌, ◌-ℤ◌, ◌*ℤ◌, List, [], ◌∷◌, map, length, Some, refl, sym, ap, ◌∙◌, arith}
use Rattle.std.specs.Prelude.{slice_get, slice_set}
use Rattle.std.specs.List.{list_all}
use Rattle.std.specs.Ordering.{int_eq}
use Rattle.std.proofs.lemmas.Bool.{and_parts}
use Rattle.std.proofs.lemmas.Bool.Decides.{Decides-int_eq}
use Rattle.std.proofs.lemmas.Int.{ints}
use Rattle.std.proofs.lemmas.List.{length-map, length-set}
use borrow.Author.Differences.{up, down, sum_is_lem, product_is}
use Rattle.logic_linear.specs.Truth.{Valuation, sum_of, value_of}
use Rattle.lang_forms.specs.declared.scope.Entry.{Entry}
use Rattle.lang_forms.specs.Forms.{Form, no_times, number_form, once, added, plus, scaled, minus, raised, is_constant, product, meaning_place, terms_of, linear_of}

-- ---- products of whole numbers

times_add : (x a b : ℤ) → x *ℤ (a +ℤ b) ≡ x *ℤ a +ℤ x *ℤ b
times_add x a b = omega (arith, ints, ap (λ n. n * up x) (sum_is_lem a b), ap (λ n. n * down x) (sum_is_lem a b))

add_times : (a b x : ℤ) → (a +ℤ b) *ℤ x ≡ a *ℤ x +ℤ b *ℤ x
add_times a b x = omega (arith, ints, ap (λ n. n * up x) (sum_is_lem a b), ap (λ n. n * down x) (sum_is_lem a b))

times_assoc : (a b c : ℤ) → (a *ℤ b) *ℤ c ≡ a *ℤ (b *ℤ c)
times_assoc a b c =
    let ab = product_is a b in
    let bc = product_is b c in
    omega (
      arith,
      ints,
      ap (λ n. n * up c) ab.0,
      ap (λ n. n * down c) ab.0,
      ap (λ n. n * up c) ab.1,
      ap (λ n. n * down c) ab.1,
      ap (λ n. n * up a) bc.0,
      ap (λ n. n * down a) bc.0,
      ap (λ n. n * up a) bc.1,
      ap (λ n. n * down a) bc.1,
    )

-- ---- the value of a form

abbrev pub times_value : Valuation → List Entry → List ℤ → ℤ
times_value valuation [] times = pos 0
times_value valuation (entry ∷ scope) [] = pos 0
times_value valuation (entry ∷ scope) (number ∷ times) = number *ℤ valuation.number (meaning_place entry.meaning) +ℤ times_value valuation scope times

abbrev pub value : Valuation → List Entry → Form → ℤ
value valuation scope form = times_value valuation scope form.times +ℤ form.constant

is_zero : (number : ℤ) → int_eq number (pos 0) ≡ true → number ≡ pos 0
is_zero number h = (Decides-int_eq number (pos 0)).0 h

zero_term : (number x rest : ℤ) → number ≡ pos 0 → number *ℤ x +ℤ rest ≡ rest
zero_term number x rest h = rw h (omega (arith, ints))

sum_of_terms : (valuation : Valuation) (scope : List Entry) (times : List ℤ) → sum_of valuation (terms_of scope times) ≡ times_value valuation scope times
sum_of_terms valuation [] times = refl
sum_of_terms valuation (entry ∷ scope) [] = refl
sum_of_terms valuation (entry ∷ scope) (number ∷ times) = by_test (int_eq number (pos 0)) refl (sum_of_terms valuation scope times)
  where
    by_test : (test : Bool) → int_eq number (pos 0) ≡ test → sum_of valuation (terms_of scope times) ≡ times_value valuation scope times
        → sum_of valuation (cond test (terms_of scope times) (record { place = meaning_place entry.meaning; times = number } ∷ terms_of scope times)) ≡ number *ℤ valuation.number (meaning_place entry.meaning) +ℤ times_value valuation scope times
    by_test true h e = e ∙ sym (zero_term number (valuation.number (meaning_place entry.meaning)) (times_value valuation scope times) (is_zero number h))
    by_test false h e = ap (λ n. number *ℤ valuation.number (meaning_place entry.meaning) +ℤ n) e

-- The linear form over places has the same value.
pub value_of_linear : (valuation : Valuation) (scope : List Entry) (form : Form) → value_of valuation (linear_of scope form) ≡ value valuation scope form
value_of_linear valuation scope form = ap (λ n. n +ℤ form.constant) (sum_of_terms valuation scope form.times)

-- ---- constants

zeros_value : (valuation : Valuation) (scope : List Entry) (times : List ℤ) → list_all (λ number. int_eq number (pos 0)) times ≡ true → times_value valuation scope times ≡ pos 0
zeros_value valuation [] times h = refl
zeros_value valuation (entry ∷ scope) [] h = refl
zeros_value valuation (entry ∷ scope) (number ∷ times) h =
    let both = and_parts (int_eq number (pos 0)) (list_all (λ number. int_eq number (pos 0)) times) h in
    zero_term number (valuation.number (meaning_place entry.meaning)) (times_value valuation scope times) (is_zero number both.0) ∙ zeros_value valuation scope times both.1

no_times_zero : (scope : List Entry) → list_all (λ number. int_eq number (pos 0)) (no_times scope) ≡ true
no_times_zero [] = refl
no_times_zero (entry ∷ scope) = no_times_zero scope

zero_plus : (a b : ℤ) → a ≡ pos 0 → a +ℤ b ≡ b
zero_plus a b h = omega (arith, ints)

pub value_of_constant : (valuation : Valuation) (scope : List Entry) (form : Form) → is_constant form ≡ true → value valuation scope form ≡ form.constant
value_of_constant valuation scope form h = zero_plus _ form.constant (zeros_value valuation scope form.times h)

pub value_of_number : (valuation : Valuation) (scope : List Entry) (number : ℤ) → value valuation scope (number_form scope number) ≡ number
value_of_number valuation scope number = value_of_constant valuation scope (number_form scope number) (no_times_zero scope)

-- ---- one entry

once_times : (valuation : Valuation) (scope : List Entry) (index : ℕ) (entry : Entry) → slice_get scope index ≡ Some entry
    → times_value valuation scope (slice_set (no_times scope) index (pos 1)) ≡ valuation.number (meaning_place entry.meaning)
once_times valuation [] index entry h = absurd cc
once_times valuation (first ∷ scope) zero entry h =
    let same : first ≡ entry = cc in
    let none = zeros_value valuation scope (no_times scope) (no_times_zero scope) in
    rw (← same) (omega (arith, ints, none))
once_times valuation (first ∷ scope) (suc index) entry h = zero_term (pos 0) (valuation.number (meaning_place first.meaning)) _ refl ∙ once_times valuation scope index entry h

plus_zero : (a b : ℤ) → a ≡ b → a +ℤ pos 0 ≡ b
plus_zero a b h = omega (arith, ints)

pub value_of_once : (valuation : Valuation) (scope : List Entry) (index : ℕ) (entry : Entry) → slice_get scope index ≡ Some entry → value valuation scope (once scope index) ≡ valuation.number (meaning_place entry.meaning)
value_of_once valuation scope index entry h = plus_zero _ _ (once_times valuation scope index entry h)

-- ---- multiples

scaled_term : (by number x rest all : ℤ) → all ≡ by *ℤ rest → (by *ℤ number) *ℤ x +ℤ all ≡ by *ℤ (number *ℤ x +ℤ rest)
scaled_term by number x rest all h = omega (arith, ints, h, times_assoc by number x, times_add by (number *ℤ x) rest)

scaled_times : (valuation : Valuation) (by : ℤ) (scope : List Entry) (times : List ℤ) → times_value valuation scope (map (λ number. by *ℤ number) times) ≡ by *ℤ times_value valuation scope times
scaled_times valuation by [] times = omega (arith, ints)
scaled_times valuation by (entry ∷ scope) [] = omega (arith, ints)
scaled_times valuation by (entry ∷ scope) (number ∷ times) = scaled_term by number (valuation.number (meaning_place entry.meaning)) _ _ (scaled_times valuation by scope times)

pub value_of_scaled : (valuation : Valuation) (scope : List Entry) (by : ℤ) (form : Form) → value valuation scope (scaled by form) ≡ by *ℤ value valuation scope form
value_of_scaled valuation scope by form = omega (arith, ints, scaled_times valuation by scope form.times, times_add by (times_value valuation scope form.times) form.constant)

-- ---- sums

added_term : (a b x m n s : ℤ) → s ≡ m +ℤ n → (a +ℤ b) *ℤ x +ℤ s ≡ (a *ℤ x +ℤ m) +ℤ (b *ℤ x +ℤ n)
added_term a b x m n s h = omega (arith, ints, h, add_times a b x)

added_times : (valuation : Valuation) (scope : List Entry) (a b : List ℤ) → length a ≡ length b → times_value valuation scope (added a b) ≡ times_value valuation scope a +ℤ times_value valuation scope b
added_times valuation [] a b h = refl
added_times valuation (entry ∷ scope) [] [] h = refl
added_times valuation (entry ∷ scope) [] (y ∷ ys) h = absurd (omega arith)
added_times valuation (entry ∷ scope) (x ∷ xs) [] h = absurd (omega arith)
added_times valuation (entry ∷ scope) (x ∷ xs) (y ∷ ys) h = added_term x y (valuation.number (meaning_place entry.meaning)) _ _ _ (added_times valuation scope xs ys (omega arith))

sum_of_sums : (m n a b s : ℤ) → s ≡ m +ℤ n → s +ℤ (a +ℤ b) ≡ (m +ℤ a) +ℤ (n +ℤ b)
sum_of_sums m n a b s h = omega (arith, ints)

pub value_of_plus : (valuation : Valuation) (scope : List Entry) (a b : Form) → length a.times ≡ length b.times → value valuation scope (plus a b) ≡ value valuation scope a +ℤ value valuation scope b
value_of_plus valuation scope a b h = sum_of_sums _ _ a.constant b.constant _ (added_times valuation scope a.times b.times h)

minus_one_times : (x : ℤ) → neg_ℤ (pos 1) *ℤ x ≡ neg_ℤ x
minus_one_times x = omega (arith, ints)

pub value_of_negative : (valuation : Valuation) (scope : List Entry) (form : Form) → value valuation scope (scaled (neg_ℤ (pos 1)) form) ≡ neg_ℤ (value valuation scope form)
value_of_negative valuation scope form = value_of_scaled valuation scope (neg_ℤ (pos 1)) form ∙ minus_one_times (value valuation scope form)

plus_opposite : (a b n s : ℤ) → s ≡ a +ℤ n → n ≡ neg_ℤ b → s ≡ a -ℤ b
plus_opposite a b n s h e = omega (arith, ints)

pub value_of_minus : (valuation : Valuation) (scope : List Entry) (a b : Form) → length a.times ≡ length b.times → value valuation scope (minus a b) ≡ value valuation scope a -ℤ value valuation scope b
value_of_minus valuation scope a b h =
    plus_opposite _ _ _ _ (value_of_plus valuation scope a (scaled (neg_ℤ (pos 1)) b) (h ∙ sym (length-map b.times (λ number. neg_ℤ (pos 1) *ℤ number)))) (value_of_negative valuation scope b)

pub value_of_raised : (valuation : Valuation) (scope : List Entry) (by : ℤ) (form : Form) → value valuation scope (raised by form) ≡ value valuation scope form +ℤ by
value_of_raised valuation scope by form = omega (arith, ints)

-- ---- products

product_swapped : (x y n m : ℤ) → x ≡ n → y ≡ m → m *ℤ n ≡ x *ℤ y
product_swapped x y n m h e = rw (h, e) (omega (arith, ints))

value_of_constant_left : (valuation : Valuation) (scope : List Entry) (a b : Form) → is_constant a ≡ true → value valuation scope (scaled a.constant b) ≡ value valuation scope a *ℤ value valuation scope b
value_of_constant_left valuation scope a b h = value_of_scaled valuation scope a.constant b ∙ ap (λ n. n *ℤ value valuation scope b) (sym (value_of_constant valuation scope a h))

value_of_constant_right : (valuation : Valuation) (scope : List Entry) (a b : Form) → is_constant b ≡ true → value valuation scope (scaled b.constant a) ≡ value valuation scope a *ℤ value valuation scope b
value_of_constant_right valuation scope a b h = value_of_scaled valuation scope b.constant a ∙ product_swapped (value valuation scope a) (value valuation scope b) (value valuation scope a) b.constant refl (value_of_constant valuation scope b h)

pub value_of_product : (valuation : Valuation) (scope : List Entry) (a b : Form) → (is_constant a || is_constant b) ≡ true → value valuation scope (product a b) ≡ value valuation scope a *ℤ value valuation scope b
value_of_product valuation scope a b h = by_test (is_constant a) refl h
  where
    by_test : (test : Bool) → is_constant a ≡ test → (test || is_constant b) ≡ true → value valuation scope (cond test (scaled a.constant b) (scaled b.constant a)) ≡ value valuation scope a *ℤ value valuation scope b
    by_test true t e = value_of_constant_left valuation scope a b t
    by_test false t e = value_of_constant_right valuation scope a b e

-- ---- how many numbers a form has

pub length_of_number : (scope : List Entry) (number : ℤ) → length (number_form scope number).times ≡ length scope
length_of_number scope number = length-map scope (λ entry. pos 0)

pub length_of_once : (scope : List Entry) (index : ℕ) → length (once scope index).times ≡ length scope
length_of_once scope index = rw length-set (length-map scope (λ entry. pos 0))

pub length_of_scaled : (by : ℤ) (form : Form) → length (scaled by form).times ≡ length form.times
length_of_scaled by form = length-map form.times (λ number. by *ℤ number)

length_of_added : (a b : List ℤ) → length a ≡ length b → length (added a b) ≡ length a
length_of_added [] b h = refl
length_of_added (x ∷ xs) [] h = absurd (omega arith)
length_of_added (x ∷ xs) (y ∷ ys) h = ap suc (length_of_added xs ys (omega arith))

pub length_of_plus : (a b : Form) → length a.times ≡ length b.times → length (plus a b).times ≡ length a.times
length_of_plus a b h = length_of_added a.times b.times h

pub length_of_product : (a b : Form) → length a.times ≡ length b.times → length (product a b).times ≡ length a.times
length_of_product a b h = by_test (is_constant a)
  where
    by_test : (test : Bool) → length (cond test (scaled a.constant b) (scaled b.constant a)).times ≡ length a.times
    by_test true = length_of_scaled a.constant b ∙ sym h
    by_test false = length_of_scaled b.constant a
