-- Light cubes: few rows, in few places, with small numbers.
use Rattle.std.specs.Prelude.{ℕ, ◌≤◌, ◌^◌, ℤ, pos, neg_ℤ, ◌≤ℤ◌, List, length}
use Rattle.std.specs.List.{AllByRecursion as Each}
use Rattle.logic_linear.specs.declared.form.Term.{Term}
use Rattle.logic_linear.specs.Linear.{Linear}
use Rattle.logic_linear.specs.Places.{HasPlaces}

-- The number's magnitude is at most the bound.
abbrev pub IsWithin : ℕ → ℤ → Type 0
IsWithin bound number = (neg_ℤ (pos bound) ≤ℤ number) × (number ≤ℤ pos bound)

-- A row of these places, whose variables count at most 2^10 times and whose constant is at most
-- 2^40.
pub record IsLightRow (places : List ℕ) (row : Linear) : Type 0 where
  pub in_places : HasPlaces places row.terms
  pub times : Each (λ (term : Term). IsWithin (2 ^ 10) term.times) row.terms
  pub constant : IsWithin (2 ^ 40) row.constant

-- At most 12 such rows, of at most three places.
pub record IsLightCube (rows : List Linear) : Type 0 where
  pub few_rows : length rows ≤ 12
  pub places : List ℕ
  pub few_places : length places ≤ 3
  pub each : Each (IsLightRow places) rows
