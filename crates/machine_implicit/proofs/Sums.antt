-- Forms of a monitor: they have few terms, and their values add up from the left.
use Rattle.std.proofs.Common.{◌≡◌, ℕ, zero, suc, ◌+◌, ◌-◌, ◌^◌, ◌<◌, ◌≤◌, Bool, true, false, cond, ltb, ◌&&◌, ℤ, pos, ◌+ℤ◌, ◌*ℤ◌, ◌≤ℤ◌, neg_ℤ, negsuc, int_le, unsigned_abs, FitsSigned, to_z, of_z, ◌*◌, mul-le-mul, IsTrue, List, [], ◌∷◌, ◌++◌, length, map, take, get_or, refl, ap, ◌∙◌, arith}
use Rattle.std.specs.List.{All, list_all, slice_get}
use Rattle.std.proofs.lemmas.Int.{ints, to_z-of_z, fits_signed_mul, fits_signed_from_abs, unsigned_abs-mul}
use mir.Syntax.{w64, w128}
use Rattle.std.proofs.lemmas.List.{take_more}
use Rattle.std.proofs.lemmas.List.Elements.{All-nil, All-cons}
use Rattle.std.proofs.lemmas.Map.Keys.{sorted_from_strictly_increasing}
use Rattle.std.proofs.lemmas.Map.Views.{length-le_from_below}
use Rattle.logic_linear.specs.declared.form.Term.{Term}
use Rattle.logic_linear.specs.Linear.{Linear, IsLinear, place_of}
use Rattle.logic_linear.specs.Truth.{Valuation, sum_of}
use Rattle.lang_base.specs.Numbers.{is_within}
use Rattle.lang_base.specs.declared.kind.Kind.{Kind}
use Rattle.lang_base.specs.declared.kind.Kind.TheVariants as kinds
pub use Rattle.machine_implicit.specs.inner.Placed.{AreFewPlaces}
use Rattle.lang_monitor.specs.MonitorParts.{Places, kind_at, is_kind, fits_term, fits_form}

-- ---- sums

pub both_true : (a b : Bool) → (a && b) ≡ true → (a ≡ true) × (b ≡ true)
both_true true b held = (refl, held)
both_true false b held = absurd (cc)

three : (a b c : ℤ) → a +ℤ (b +ℤ c) ≡ (a +ℤ b) +ℤ c
three a b c = omega (arith, ints)

alone : (a : ℤ) → a +ℤ pos 0 ≡ pos 0 +ℤ a
alone a = omega (arith, ints)

sum_push : (valuation : Valuation) (terms : List Term) (term : Term) → sum_of valuation (terms ++ term ∷ []) ≡ sum_of valuation terms +ℤ term.times *ℤ valuation.number term.place
sum_push valuation [] term = alone (term.times *ℤ valuation.number term.place)
sum_push valuation (first ∷ terms) term =
    ap (λ (rest : ℤ). first.times *ℤ valuation.number first.place +ℤ rest) (sum_push valuation terms term)
    ∙ three (first.times *ℤ valuation.number first.place) (sum_of valuation terms) (term.times *ℤ valuation.number term.place)

-- one more term
pub sum_more : (valuation : Valuation) (terms : List Term) (index : ℕ) (default : Term) → index < length terms
    → sum_of valuation (take (index + 1) terms) ≡ sum_of valuation (take index terms) +ℤ (get_or terms index default).times *ℤ valuation.number (get_or terms index default).place
sum_more valuation terms index default within = ap (sum_of valuation) (take_more terms index default within) ∙ sum_push valuation (take index terms) (get_or terms index default)

-- a number within a bound
pub within_bounds : (bound : ℕ) (number : ℤ) → is_within bound number ≡ true → (neg_ℤ (pos bound) ≤ℤ number) × (number ≤ℤ pos bound)
within_bounds bound number held = let parts = both_true (int_le (neg_ℤ (pos bound)) number) (int_le number (pos bound)) held in (grind (arith, ints, parts.0), grind (arith, ints, parts.1))

-- ---- places

pub kind_within : (kind : Kind) (some : List Kind) (index : ℕ) → is_kind kind (slice_get some index) ≡ true → index < length some
kind_within kinds.Int [] index held = absurd (cc)
kind_within kinds.Bool [] index held = absurd (cc)
kind_within kind (first ∷ some) zero held = omega arith
kind_within kind (first ∷ some) (suc index) held = omega (arith, kind_within kind some index held)

place_cases : (kind : Kind) (fields inputs locals : List Kind) (place : ℕ) (low middle : Bool) → low ≡ ltb place 16 → middle ≡ ltb place 22
    → length fields ≤ 16 → length inputs ≤ 6 → length locals ≤ 4
    → is_kind kind (cond low (slice_get fields place) (cond middle (slice_get inputs (place - 16)) (slice_get locals (place - 22)))) ≡ true → place < 26
place_cases kind fields inputs locals place true middle is also few_fields few_inputs few_locals held = omega (arith, kind_within kind fields place held)
place_cases kind fields inputs locals place false true is also few_fields few_inputs few_locals held = omega (arith, kind_within kind inputs (place - 16) held)
place_cases kind fields inputs locals place false false is also few_fields few_inputs few_locals held = omega (arith, kind_within kind locals (place - 22) held)

-- a place of some kind is below 26
pub place_small : (kind : Kind) (places : Places) (place : ℕ) → AreFewPlaces places → is_kind kind (kind_at places place) ≡ true → place < 26
place_small kind places place few held = place_cases kind places.fields places.inputs places.locals place (ltb place 16) (ltb place 22) refl refl few.fields few.inputs few.locals held

-- ---- terms

abbrev IsLow : ℕ → Type 0
IsLow place = place < 26

places_low : (places : Places) (terms : List Term) → AreFewPlaces places → list_all (fits_term places) terms ≡ true → All IsLow (map place_of terms)
places_low places [] few held = All-nil IsLow
places_low places (term ∷ terms) few held =
    let parts = both_true (fits_term places term) (list_all (fits_term places) terms) held in
    let own = both_true (is_kind kinds.Int (kind_at places term.place)) (is_within (2 ^ 31) term.times) parts.0 in
    All-cons IsLow term.place (map place_of terms) (place_small kinds.Int places term.place few own.0) (places_low places terms few parts.1)

length_mapped : (terms : List Term) → length (map place_of terms) ≡ length terms
length_mapped [] = refl
length_mapped (term ∷ terms) = omega (arith, length_mapped terms)

-- a form has at most one term for each place
pub terms_few : (places : Places) (form : Linear) → AreFewPlaces places → IsLinear form → fits_form places form ≡ true → length form.terms ≤ 26
terms_few places form few rule held =
    let parts = both_true (list_all (fits_term places) form.terms) (is_within (2 ^ 64) form.constant) held in
    omega (
      arith,
      length_mapped form.terms,
      length-le_from_below 26 (map place_of form.terms) (sorted_from_strictly_increasing (map place_of form.terms) rule.rising) (places_low places form.terms few parts.0),
    )

-- ---- a term as the code computes it

within_abs : (bound : ℕ) (z : ℤ) → is_within bound z ≡ true → unsigned_abs z ≤ bound
within_abs bound (pos n) held = grind (arith, ints)
within_abs bound (negsuc n) held = grind (arith, ints)

abs_within : (bound : ℕ) (z : ℤ) → unsigned_abs z ≤ bound → is_within bound z ≡ true
abs_within bound (pos n) few = grind (arith, ints)
abs_within bound (negsuc n) few = grind (arith, ints)

pub term_small : (times number read : ℤ) → IsTrue (is_within (2 ^ 31) times) → FitsSigned w64 number → unsigned_abs number ≤ 2 ^ 63 → read ≡ to_z w64 (of_z w64 number)
    → IsTrue (is_within (2 ^ 94) (to_z w128 (of_z w128 (to_z w128 (of_z w128 times) *ℤ to_z w128 (of_z w128 read)))))
term_small times number read held fits small is =
    let few : unsigned_abs times ≤ 2 ^ 31 = within_abs (2 ^ 31) times held in
    let own : read ≡ number = is ∙ to_z-of_z w64 number fits in
    let left : to_z w128 (of_z w128 times) ≡ times = to_z-of_z w128 times (fits_signed_from_abs w128 times (omega (arith, few))) in
    let right : to_z w128 (of_z w128 number) ≡ number = to_z-of_z w128 number (fits_signed_from_abs w128 number (omega (arith, small))) in
    let product = fits_signed_mul w128 times number (2 ^ 31) (2 ^ 63) few small (omega arith) in
    let bound : unsigned_abs times * unsigned_abs number ≤ 2 ^ 31 * 2 ^ 63 = mul-le-mul few small in
    let whole : is_within (2 ^ 94) (times *ℤ number) ≡ true = abs_within (2 ^ 94) (times *ℤ number) (omega (arith, unsigned_abs-mul times number, bound)) in
    rw (own, left, right, to_z-of_z w128 (times *ℤ number) product) whole
