-- Numbers within a bound fit what the code computes with.
use Rattle.std.proofs.Common.{◌≡◌, ℕ, ◌+◌, ◌<◌, ◌≤◌, ◌*◌, ◌^◌, ℤ, pos, negsuc, neg_ℤ, ◌+ℤ◌, ◌*ℤ◌, ◌≤ℤ◌, Bool, true, false, FitsSigned, to_z, of_z, arith}
use Rattle.std.specs.Prelude.{unsigned_abs}
use Rattle.std.proofs.lemmas.Int.{ints, to_z-of_z, fits_signed_mul, fits_signed_from_abs}
use mir.Syntax.{w128}
use Rattle.lang_forms.specs.Scope.{signed}
use Rattle.lang_base.specs.Numbers.{is_within}

pub within_abs : (bound : ℕ) (z : ℤ) → is_within bound z ≡ true → unsigned_abs z ≤ bound
within_abs bound (pos n) h = grind (arith, ints)
within_abs bound (negsuc n) h = grind (arith, ints)

pub bounds_within : (bound : ℕ) (z : ℤ) → is_within bound z ≡ true → (neg_ℤ (pos bound) ≤ℤ z) × (z ≤ℤ pos bound)
bounds_within bound z h = (grind (arith, ints), grind (arith, ints))

pub within_bounds : (bound : ℕ) (z : ℤ) → neg_ℤ (pos bound) ≤ℤ z → z ≤ℤ pos bound → is_within bound z ≡ true
within_bounds bound z above below = grind (arith, ints)

bounds_abs : (bound : ℕ) (z : ℤ) → neg_ℤ (pos bound) ≤ℤ z → z ≤ℤ pos bound → unsigned_abs z ≤ bound
bounds_abs bound (pos n) above below = grind (arith, ints)
bounds_abs bound (negsuc n) above below = grind (arith, ints)

pub bounds_fit : (bound : ℕ) (z : ℤ) → neg_ℤ (pos bound) ≤ℤ z → z ≤ℤ pos bound → bound < 2 ^ 127 → FitsSigned w128 z
bounds_fit bound z above below small = let size = bounds_abs bound z above below in fits_signed_from_abs w128 z (omega arith)

pub within_fits : (bound : ℕ) (z : ℤ) → is_within bound z ≡ true → bound < 2 ^ 127 → FitsSigned w128 z
within_fits bound z h small = let size = within_abs bound z h in fits_signed_from_abs w128 z (omega arith)

pub read_fits : (z : ℤ) → FitsSigned w128 z → to_z w128 (of_z w128 z) ≡ z
read_fits z fits = to_z-of_z w128 z fits

-- the product of a number of a form and a constant, as the code computes it
pub product_fits : (time by : ℤ) → is_within (2 ^ 31) time ≡ true → is_within (2 ^ 63) by ≡ true → FitsSigned w128 (time *ℤ by)
product_fits time by h k = fits_signed_mul w128 time by (2 ^ 31) (2 ^ 63) (within_abs _ time h) (within_abs _ by k) (omega arith)

signed_bounds : (minus : Bool) (bound : ℕ) (z : ℤ) → is_within bound z ≡ true → (neg_ℤ (pos bound) ≤ℤ signed minus z) × (signed minus z ≤ℤ pos bound)
signed_bounds true bound z h = (grind (arith, ints), grind (arith, ints))
signed_bounds false bound z h = (grind (arith, ints), grind (arith, ints))

pub signed_within : (minus : Bool) (bound : ℕ) (z : ℤ) → is_within bound z ≡ true → is_within bound (signed minus z) ≡ true
signed_within minus bound z h = let both = signed_bounds minus bound z h in within_bounds bound _ both.0 both.1

-- a sum of so many parts and one more
pub sum_bounds : (parts unit : ℕ) (a b : ℤ) → neg_ℤ (pos (parts * unit)) ≤ℤ a → a ≤ℤ pos (parts * unit) → is_within unit b ≡ true → (neg_ℤ (pos ((parts + 1) * unit)) ≤ℤ (a +ℤ b)) × ((a +ℤ b) ≤ℤ pos ((parts + 1) * unit))
sum_bounds parts unit a b above below h =
    let both = bounds_within unit b h in
    (omega (arith, ints), omega (arith, ints))
