-- Numbers on the way to the value of a form that are outside 128 bits.
use Rattle.std.specs.Prelude.{◌≡◌, ℕ, ℤ, ◌*ℤ◌, ◌⊎◌, false, List, Option, Some, None, take}
use Rattle.std.specs.List.{Contains}
use Rattle.logic_linear.specs.declared.form.Term.{Term}
use Rattle.logic_linear.specs.declared.formula.Formula.{Formula}
use Rattle.logic_linear.specs.Linear.{Linear}
use Rattle.logic_linear.specs.Places.{rows_of}
use Rattle.logic_linear.specs.Sums.{fits_128}
use Rattle.logic_linear.specs.Truth.{Valuation, sum_of, value_of}

-- on the way to the sum of terms: the product of each, and the sum of each front of them
pub data IsOnTheWay (v : Valuation) (terms : List Term) : ℤ → Type 0 where
  product : (term : Term) → Contains terms term
      → IsOnTheWay v terms (term.times *ℤ v.number term.place)
  front : (count : ℕ) → IsOnTheWay v terms (sum_of v (take count terms))

-- such a number is outside 128 bits
pub record HasWideSum (v : Valuation) (terms : List Term) : Type 0 where
  pub number : ℤ
  pub on_the_way : IsOnTheWay v terms number
  pub wide : fits_128 number ≡ false

-- a number on the way to the form's value is outside 128 bits, or the value is
abbrev pub IsWideForm : Valuation → Linear → Type 0
IsWideForm v form = HasWideSum v form.terms ⊎ (fits_128 (value_of v form) ≡ false)

pub record HasWideRow (v : Valuation) (rows : List Linear) : Type 0 where
  pub row : Linear
  pub there : Contains rows row
  pub wide : IsWideForm v row

-- a number of one of the formula's rows is outside 128 bits
abbrev pub IsWideFormula : Valuation → Formula → Type 0
IsWideFormula v formula = HasWideRow v (rows_of formula)

-- what is found is this value; there is none only where a number is wide
abbrev pub IsComputed : {X : Type 0} → X → Type 0 → Option X → Type 0
IsComputed value wide (Some found) = found ≡ value
IsComputed value wide None = wide
