-- The parts of a report's text: the report, and the lines of blocks that keep 64 bits after it.
use Rattle.std.specs.Prelude.{◌≡◌, ◌⊎◌, ℕ, ◌-◌, ◌<◌, List, [], ◌++◌, length, drop, Some}
use Rattle.std.specs.Prelude.{slice_get, codes}

-- a line of bytes begins at this place
abbrev pub IsLineStart : List ℕ → ℕ → Type 0
IsLineStart bytes place = (place ≡ 0) ⊎ (slice_get bytes (place - 1) ≡ Some 10)

-- the text goes on with `proof fits `
abbrev pub GoesOnWithFit : List ℕ → Type 0
GoesOnWithFit text = (rest : List ℕ) × (codes "proof fits " ++ rest ≡ text)

-- such a line begins at this place
pub record HasFitAt (bytes : List ℕ) (place : ℕ) : Type 0 where
  pub start : IsLineStart bytes place
  pub here : GoesOnWithFit (drop place bytes)

-- bytes in two parts: the second begins with the first such line, and is empty where there is none
pub record AreParts (bytes report fits : List ℕ) : Type 0 where
  pub joined : report ++ fits ≡ bytes
  pub begins : (fits ≡ []) ⊎ HasFitAt bytes (length report)
  pub first : (place : ℕ) → place < length report → HasFitAt bytes place → ⊥
