-- where an elimination begins, and what it comes to.
use Rattle.std.specs.Prelude.{◌≡◌, ℕ, ◌≤◌, Bool, false, true, List, [], ◌∷◌, map, Option, Some}
use Rattle.std.specs.Prelude.{None}
use Rattle.std.specs.List.{AllByRecursion as Each}
use Rattle.logic_linear.specs.Linear.{Linear, IsLinear}
use Rattle.logic_linear.specs.Places.{HasPlaces, IsIn}
use Rattle.logic_cert.specs.declared.cert.Combine.{Combine}
use Rattle.logic_cert.specs.Refutes.{chain_closes, is_absurd}
use Rattle.logic_elim.specs.declared.rows.Numbered.{Numbered}
use Rattle.logic_linear.specs.Fractions.{HasFractionalSolution}
use Rattle.logic_linear.specs.LightCubes.{IsLightCube}
use Rattle.logic_elim.specs.Chains.{HasNumber, State, StandsAtNumbers, rows_in}

-- The row is not one that holds nowhere.
abbrev pub IsSane : Linear → Type 0
IsSane row = is_absurd row ≡ false

-- No row is absurd, or a sum is such a row.
abbrev pub HasAbsurd : List Linear → Option Combine → Type 0
HasAbsurd rows None = Each IsSane rows
HasAbsurd rows (Some combine) = chain_closes (combine ∷ []) (map Some rows) ≡ true

-- Some rows are kept under their numbers.
pub record AreNumbered (all some : List Linear) (kept : List Numbered) : Type 0 where
  pub rows : rows_in kept ≡ some
  pub numbers : Each (HasNumber (map Some all)) kept
  pub each : Each IsLinear some

-- A light cube whose rows are kept, and nothing is summed yet.
pub record IsBegin (state : State) : Type 0 where
  pub light : IsLightCube (rows_in state.kept)
  pub each : Each IsLinear (rows_in state.kept)
  pub sane : Each IsSane (rows_in state.kept)
  pub few : state.next ≤ 65536

-- The chain closes, or the rows have a solution.
abbrev pub IsEnd : State → State → Bool → Type 0
IsEnd before after true =
    (rows : List (Option Linear)) → StandsAtNumbers rows [] before
    → chain_closes after.combines rows ≡ true
IsEnd before after false = HasFractionalSolution (rows_in before.kept)

-- The row has a variable at the place, or none has a variable.
abbrev pub IsPlaceOf : List Linear → Option ℕ → Type 0
IsPlaceOf rows None = Each (λ (row : Linear). row.terms ≡ []) rows
IsPlaceOf rows (Some place) =
    (places : List ℕ) → Each (λ (row : Linear). HasPlaces places row.terms) rows → IsIn places place
