-- Every form that is made has a number for each entry of the scope, and how large its numbers are.
use Rattle.std.proofs.Common.{◌≡◌, ℕ, zero, suc, ◌+◌, ◌<◌, ◌≤◌, ◌*◌, ◌^◌, ℤ, pos, neg_ℤ, ◌+ℤ◌, ◌*ℤ◌, ◌≤ℤ◌, Bool, true, false, cond, Option, Some, None, List, [], ◌∷◌, length, get_or, set, map, refl, sym, ◌∙◌, subst, arith}
use Rattle.std.specs.Prelude.{slice_get}
use Rattle.std.specs.List.{list_all, All}
use Rattle.std.proofs.lemmas.Int.{ints}
use Rattle.std.proofs.lemmas.List.{length-map}
use Rattle.logic_linear.proofs.LinearLemmas.{at_each}
use Rattle.lang_forms.specs.declared.scope.Meaning.{Meaning}
use Rattle.lang_forms.specs.declared.scope.Meaning.TheVariants as meanings
use Rattle.lang_forms.specs.declared.scope.Entry.{Entry}
use Rattle.lang_forms.specs.Scope.{signed, entry_at, index_of}
use Rattle.lang_forms.specs.Forms.{Form, added, entry_form, is_constant, is_limited, meaning_form, name_form, no_times, number_form, plus, product, raised, scaled}
use Rattle.lang_forms.specs.inner.FormBounds.{AreTimesOf, AreTimesWithin, AreWithin, CanCount, HasRoom, IsFormOf, FitsLinear}
use Rattle.lang_base.specs.Numbers.{is_within}
use Rattle.lang_forms.proofs.Numbers.{bounds_within, signed_within, sum_bounds, within_bounds}
use Rattle.lang_forms.proofs.FormSums.{added_at, length_added, minus_each}
use Rattle.lang_forms.proofs.FormTerms.{times_length}

-- ---- a number for each entry

zero_counts : (meaning : Meaning) → CanCount meaning (pos 0)
zero_counts (meanings.Number value) = refl
zero_counts (meanings.Int place) = tt
zero_counts (meanings.Flag place) = tt

no_times_fit : (scope : List Entry) → AreTimesOf scope (no_times scope)
no_times_fit [] = tt
no_times_fit (entry ∷ scope) = (zero_counts entry.meaning, no_times_fit scope)

pub number_is_form : (scope : List Entry) (number : ℤ) → IsFormOf scope (number_form scope number)
number_is_form scope number = no_times_fit scope

some_is : {X : Type 0} (x y : X) → Some x ≡ Some y → x ≡ y
some_is x y is = cc

once_fit : (scope : List Entry) (index : ℕ) (entry : Entry) → slice_get scope index ≡ Some entry → CanCount entry.meaning (pos 1) → AreTimesOf scope (set (no_times scope) index (pos 1))
once_fit [] index entry is can = tt
once_fit (e ∷ scope) zero entry is can = (subst (λ x. CanCount x.meaning (pos 1)) (sym (some_is e entry is)) can, no_times_fit scope)
once_fit (e ∷ scope) (suc index) entry is can = (zero_counts e.meaning, once_fit scope index entry is can)

meaning_is_form : (scope : List Entry) (index : ℕ) (entry : Entry) (meaning : Meaning) → meaning ≡ entry.meaning → slice_get scope index ≡ Some entry → IsFormOf scope (meaning_form scope index meaning)
meaning_is_form scope index entry (meanings.Number value) means is = no_times_fit scope
meaning_is_form scope index entry (meanings.Int place) means is = once_fit scope index entry is (subst (λ meaning. CanCount meaning (pos 1)) means tt)
meaning_is_form scope index entry (meanings.Flag place) means is = no_times_fit scope

found_is_form : (scope : List Entry) (index : ℕ) (found : Option Entry) → slice_get scope index ≡ found → IsFormOf scope (entry_form scope (Some index) found)
found_is_form scope index None is = no_times_fit scope
found_is_form scope index (Some entry) is = meaning_is_form scope index entry entry.meaning refl is

entry_is_form : (scope : List Entry) (index : Option ℕ) → IsFormOf scope (entry_form scope index (entry_at scope index))
entry_is_form scope None = no_times_fit scope
entry_is_form scope (Some index) = found_is_form scope index _ refl

pub name_is_form : (scope : List Entry) (name : List ℕ) → IsFormOf scope (name_form scope name)
name_is_form scope name = entry_is_form scope (index_of scope name)

sum_counts : (meaning : Meaning) (a b : ℤ) → CanCount meaning a → CanCount meaning b → CanCount meaning (a +ℤ b)
sum_counts (meanings.Number value) a b can also = rw (can, also) refl
sum_counts (meanings.Int place) a b can also = tt
sum_counts (meanings.Flag place) a b can also = tt

added_fit : (scope : List Entry) (a b : List ℤ) → AreTimesOf scope a → AreTimesOf scope b → AreTimesOf scope (added a b)
added_fit [] [] [] fit also = tt
added_fit (entry ∷ scope) (x ∷ a) (y ∷ b) fit also = (sum_counts entry.meaning x y fit.0 also.0, added_fit scope a b fit.1 also.1)
added_fit [] [] (y ∷ b) fit also = absurd also
added_fit [] (x ∷ a) b fit also = absurd fit
added_fit (entry ∷ scope) [] b fit also = absurd fit
added_fit (entry ∷ scope) (x ∷ a) [] fit also = absurd also

pub plus_is_form : (scope : List Entry) (a b : Form) → IsFormOf scope a → IsFormOf scope b → IsFormOf scope (plus a b)
plus_is_form scope a b fit also = added_fit scope a.times b.times fit also

times_counts : (meaning : Meaning) (by a : ℤ) → CanCount meaning a → CanCount meaning (by *ℤ a)
times_counts (meanings.Number value) by a can = rw can (grind (arith, ints))
times_counts (meanings.Int place) by a can = tt
times_counts (meanings.Flag place) by a can = tt

scaled_fit : (scope : List Entry) (by : ℤ) (times : List ℤ) → AreTimesOf scope times → AreTimesOf scope (map (λ number. by *ℤ number) times)
scaled_fit [] by [] fit = tt
scaled_fit (entry ∷ scope) by (x ∷ times) fit = (times_counts entry.meaning by x fit.0, scaled_fit scope by times fit.1)
scaled_fit [] by (x ∷ times) fit = absurd fit
scaled_fit (entry ∷ scope) by [] fit = absurd fit

pub scaled_is_form : (scope : List Entry) (by : ℤ) (form : Form) → IsFormOf scope form → IsFormOf scope (scaled by form)
scaled_is_form scope by form fit = scaled_fit scope by form.times fit

pub raised_is_form : (scope : List Entry) (by : ℤ) (form : Form) → IsFormOf scope form → IsFormOf scope (raised by form)
raised_is_form scope by form fit = fit

either_is_form : (scope : List Entry) (left : Bool) (a b : Form) → IsFormOf scope a → IsFormOf scope b → IsFormOf scope (cond left a b)
either_is_form scope true a b fit also = fit
either_is_form scope false a b fit also = also

pub product_is_form : (scope : List Entry) (a b : Form) → IsFormOf scope a → IsFormOf scope b → IsFormOf scope (product a b)
product_is_form scope a b fit also = either_is_form scope (is_constant a) _ _ (scaled_is_form scope a.constant b also) (scaled_is_form scope b.constant a fit)

pub same_lengths : (scope : List Entry) (a b : Form) → IsFormOf scope a → IsFormOf scope b → length a.times ≡ length b.times
same_lengths scope a b fit also = times_length scope a.times fit ∙ sym (times_length scope b.times also)

-- ---- how large the numbers are

pub limited_times : (form : Form) → is_limited form ≡ true → list_all (is_within (2 ^ 31)) form.times ≡ true
limited_times form limited = grind arith

pub limited_constant : (form : Form) → is_limited form ≡ true → is_within (2 ^ 63) form.constant ≡ true
limited_constant form limited = grind arith

-- a limited form is one part
pub limited_within : (form : Form) → is_limited form ≡ true → AreWithin 1 form
limited_within form limited =
    let whole = bounds_within (2 ^ 63) form.constant (limited_constant form limited) in
    record {
      each = λ k d lt. bounds_within (2 ^ 31) (get_or form.times k d) (at_each (is_within (2 ^ 31)) form.times k d lt (limited_times form limited));
      above = whole.0;
      below = whole.1;
    }

sums_within : (parts : ℕ) (a b : List ℤ) → length a ≡ length b → AreTimesWithin parts a → list_all (is_within (2 ^ 31)) b ≡ true → (k : ℕ) (d : ℤ) → k < length a → (neg_ℤ (pos ((parts + 1) * 2 ^ 31)) ≤ℤ get_or (added a b) k d) × (get_or (added a b) k d ≤ℤ pos ((parts + 1) * 2 ^ 31))
sums_within parts a b same each limited k d lt =
    let here = each k d lt in
    let part = at_each (is_within (2 ^ 31)) b k d (omega arith) limited in
    rw (added_at a b k d d d same lt) (sum_bounds parts (2 ^ 31) (get_or a k d) (get_or b k d) here.0 here.1 part)

-- one part more
pub plus_within : (parts : ℕ) (a b : Form) → length a.times ≡ length b.times → AreWithin parts a → is_limited b ≡ true → AreWithin (parts + 1) (plus a b)
plus_within parts a b same within limited =
    let whole = sum_bounds parts (2 ^ 63) a.constant b.constant within.above within.below (limited_constant b limited) in
    record { each = λ k d lt. sums_within parts a.times b.times same within.each (limited_times b limited) k d (omega (arith, length_added a.times b.times same)); above = whole.0; below = whole.1 }

each_signed : (numbers : List ℤ) → list_all (is_within (2 ^ 31)) numbers ≡ true → list_all (is_within (2 ^ 31)) (map (signed true) numbers) ≡ true
each_signed [] limited = refl
each_signed (number ∷ numbers) limited =
    let here : is_within (2 ^ 31) number ≡ true = grind arith in
    let rest : list_all (is_within (2 ^ 31)) numbers ≡ true = grind arith in
    let turned = signed_within true (2 ^ 31) number here in
    let others = each_signed numbers rest in
    rw turned others

minus_one_is : (number : ℤ) → neg_ℤ number ≡ neg_ℤ (pos 1) *ℤ number
minus_one_is number = grind (arith, ints)

-- a form with its sign turned is as large as before
pub turned_limited : (form : Form) → is_limited form ≡ true → is_limited (scaled (neg_ℤ (pos 1)) form) ≡ true
turned_limited form limited =
    let times = each_signed form.times (limited_times form limited) in
    let whole = signed_within true (2 ^ 63) form.constant (limited_constant form limited) in
    rw (← minus_each form.times, ← minus_one_is form.constant, times) whole

-- what `add` makes
pub sum_within : (parts : ℕ) (minus : Bool) (a b : Form) → length a.times ≡ length b.times → AreWithin parts a → is_limited b ≡ true → AreWithin (parts + 1) (plus a (cond minus (scaled (neg_ℤ (pos 1)) b) b))
sum_within parts true a b same within limited =
    plus_within parts a (scaled (neg_ℤ (pos 1)) b) (same ∙ sym (length-map b.times (λ number. neg_ℤ (pos 1) *ℤ number))) within (turned_limited b limited)
sum_within parts false a b same within limited = plus_within parts a b same within limited

more_within : (parts : ℕ) (number : ℤ) → neg_ℤ (pos (parts * 2 ^ 31)) ≤ℤ number → number ≤ℤ pos (parts * 2 ^ 31) → (neg_ℤ (pos ((parts + 1) * 2 ^ 31)) ≤ℤ number) × (number ≤ℤ pos ((parts + 1) * 2 ^ 31))
more_within parts number above below = (omega (arith, ints), omega (arith, ints))

pub raised_within : (parts : ℕ) (form : Form) → AreWithin parts form → AreWithin (parts + 1) (raised (pos 1) form)
raised_within parts form within =
    let above = within.above in
    let below = within.below in
    let each = within.each in
    record {
      each = λ k d lt. let here = each k d lt in more_within parts (get_or form.times k d) here.0 here.1;
      above = omega (arith, ints);
      below = omega (arith, ints);
    }

each_passes : (test : ℤ → Bool) (numbers : List ℤ) → All (λ number. test number ≡ true) numbers → list_all test numbers ≡ true
each_passes test [] each = refl
each_passes test (number ∷ numbers) each = rw (each 0 number (omega arith)) (each_passes test numbers (λ k d lt. each (suc k) d (omega arith)))

within_94_bits : (parts unit : ℕ) (number : ℤ) → neg_ℤ (pos (parts * unit)) ≤ℤ number → number ≤ℤ pos (parts * unit) → parts * unit ≤ 2 ^ 94 → is_within (2 ^ 94) number ≡ true
within_94_bits parts unit number above below le = within_bounds (2 ^ 94) number (omega (arith, ints)) (omega (arith, ints))

-- so few parts make a form that can be a linear form
pub within_small : (parts : ℕ) (form : Form) → parts ≤ 2 ^ 31 → AreWithin parts form → FitsLinear form
within_small parts form few within =
    record {
      each = each_passes (is_within (2 ^ 94)) form.times (λ k d lt. let here = within.each k d lt in within_94_bits parts (2 ^ 31) (get_or form.times k d) here.0 here.1 (omega arith));
      whole = within_94_bits parts (2 ^ 63) form.constant within.above within.below (omega arith);
    }

pub within_has_room : (parts : ℕ) (form : Form) → parts < 2 ^ 62 → AreWithin parts form → HasRoom form
within_has_room parts form few within = (parts, few, within)
