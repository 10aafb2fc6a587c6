-- The forms of numbers and names are limited, and so is the opposite_within of a limited
-- difference.
use Rattle.std.proofs.Common.{◌≡◌, ℕ, zero, suc, ◌^◌, ℤ, pos, neg_ℤ, ◌+ℤ◌, ◌*ℤ◌, Bool, true, false, List, [], ◌∷◌, map, set, refl, arith}
use Rattle.std.specs.Prelude.{Option, Some, None, ◌&&◌, slice_get}
use Rattle.std.specs.List.{list_all}
use Rattle.std.proofs.lemmas.Int.{ints}
use Rattle.lang_forms.specs.declared.scope.Meaning.{Meaning}
use Rattle.lang_forms.specs.declared.scope.Meaning.TheVariants as meanings
use Rattle.lang_forms.specs.declared.scope.Entry.{Entry}
use Rattle.lang_forms.specs.Scope.{entry_at, index_of}
use Rattle.lang_forms.specs.Forms.{Form, added, entry_form, is_limited, meaning_form, minus, name_form, no_times, number_form, once}
use Rattle.lang_base.specs.Numbers.{is_within}
use Rattle.lang_forms.specs.Making.{has_small_numbers, has_small_number}

-- ---- limited numbers

pub both_true : (a b : Bool) → (a && b) ≡ true → (a ≡ true) × (b ≡ true)
both_true true true is = (refl, refl)
both_true true false is = absurd (cc)
both_true false b is = absurd (cc)

no_times_limited : (scope : List Entry) → list_all (is_within (2 ^ 31)) (no_times scope) ≡ true
no_times_limited [] = refl
no_times_limited (entry ∷ scope) = no_times_limited scope

pub number_limited : (scope : List Entry) (number : ℤ) → is_within (2 ^ 63) number ≡ true → is_limited (number_form scope number) ≡ true
number_limited scope number within = rw (no_times_limited scope, within) refl

set_limited : (test : ℤ → Bool) (times : List ℤ) (index : ℕ) (number : ℤ) → list_all test times ≡ true → test number ≡ true → list_all test (set times index number) ≡ true
set_limited test [] index number each this = refl
set_limited test (time ∷ times) zero number each this = let rest = (both_true (test time) (list_all test times) each).1 in rw (this, rest) refl
set_limited test (time ∷ times) (suc index) number each this = let both = both_true (test time) (list_all test times) each in let rest = set_limited test times index number both.1 this in rw (both.0, rest) refl

once_limited : (scope : List Entry) (index : ℕ) → is_limited (once scope index) ≡ true
once_limited scope index = rw (set_limited (is_within (2 ^ 31)) (no_times scope) index (pos 1) (no_times_limited scope) refl) refl

meaning_limited : (scope : List Entry) (index : ℕ) (meaning : Meaning) → has_small_number meaning ≡ true → is_limited (meaning_form scope index meaning) ≡ true
meaning_limited scope index (meanings.Number number) small = number_limited scope number small
meaning_limited scope index (meanings.Int place) small = once_limited scope index
meaning_limited scope index (meanings.Flag place) small = number_limited scope (pos 0) refl

abbrev is_small_entry : Option Entry → Bool
is_small_entry None = true
is_small_entry (Some entry) = has_small_number entry.meaning

small_at : (scope : List Entry) (index : ℕ) → has_small_numbers scope ≡ true → is_small_entry (slice_get scope index) ≡ true
small_at [] index small = refl
small_at (entry ∷ scope) zero small = (both_true (has_small_number entry.meaning) (has_small_numbers scope) small).0
small_at (entry ∷ scope) (suc index) small = small_at scope index (both_true (has_small_number entry.meaning) (has_small_numbers scope) small).1

entry_limited : (scope : List Entry) (index : ℕ) (entry : Option Entry) → is_small_entry entry ≡ true → is_limited (entry_form scope (Some index) entry) ≡ true
entry_limited scope index None small = number_limited scope (pos 0) refl
entry_limited scope index (Some entry) small = meaning_limited scope index entry.meaning small

index_limited : (scope : List Entry) (index : Option ℕ) → has_small_numbers scope ≡ true → is_limited (entry_form scope index (entry_at scope index)) ≡ true
index_limited scope None small = number_limited scope (pos 0) refl
index_limited scope (Some index) small = entry_limited scope index (slice_get scope index) (small_at scope index small)

pub name_limited : (scope : List Entry) (name : List ℕ) → has_small_numbers scope ≡ true → is_limited (name_form scope name) ≡ true
name_limited scope name small = index_limited scope (index_of scope name) small

-- ---- differences, either way round

opposite_within : (bound : ℕ) (a b : ℤ) → is_within bound (a +ℤ neg_ℤ (pos 1) *ℤ b) ≡ true → is_within bound (b +ℤ neg_ℤ (pos 1) *ℤ a) ≡ true
opposite_within bound a b within = grind (arith, ints)

opposite_times : (bound : ℕ) (a b : List ℤ) → list_all (is_within bound) (added a (map (λ number. neg_ℤ (pos 1) *ℤ number) b)) ≡ true → list_all (is_within bound) (added b (map (λ number. neg_ℤ (pos 1) *ℤ number) a)) ≡ true
opposite_times bound [] [] within = refl
opposite_times bound [] (y ∷ b) within = refl
opposite_times bound (x ∷ a) [] within = refl
opposite_times bound (x ∷ a) (y ∷ b) within =
    let both = both_true (is_within bound (x +ℤ neg_ℤ (pos 1) *ℤ y)) (list_all (is_within bound) (added a (map (λ number. neg_ℤ (pos 1) *ℤ number) b))) within in
    rw (opposite_within bound x y both.0, opposite_times bound a b both.1) refl

pub opposite_limited : (a b : Form) → is_limited (minus a b) ≡ true → is_limited (minus b a) ≡ true
opposite_limited a b limited =
    let both = both_true (list_all (is_within (2 ^ 31)) (minus a b).times) (is_within (2 ^ 63) (minus a b).constant) limited in
    rw (opposite_times (2 ^ 31) a.times b.times both.0, opposite_within (2 ^ 63) a.constant b.constant both.1) refl
