-- what a chain of sums has made so far.
use Rattle.std.specs.Prelude.{◌≡◌, ℕ, Bool, true, ◌&&◌, List, [], ◌∷◌, ◌++◌, length, map, Option}
use Rattle.std.specs.Prelude.{Some, slice_get}
use Rattle.std.specs.List.{AllByRecursion as Each}
use Rattle.std.specs.Option.{is_some}
use Rattle.logic_linear.specs.Linear.{Linear}
use Rattle.logic_cert.specs.declared.cert.Combine.{Combine}
use Rattle.logic_cert.specs.Refutes.{chain_closes, made}
use Rattle.logic_elim.specs.declared.rows.Numbered.{Numbered}
use Rattle.logic_elim.specs.declared.elimination.Elimination.{Elimination}
use Rattle.logic_elim.specs.declared.elimination.Progress.{Progress}
use Rattle.logic_elim.specs.declared.elimination.Progress.TheVariants.{Left, Closed, Stopped}

-- The rows that there are after the chain's sums.
abbrev pub rows_after : List Combine → List (Option Linear) → List (Option Linear)
rows_after [] rows = rows
rows_after (combine ∷ combines) rows = rows_after combines (rows ++ made combine rows ∷ [])

-- Each sum can be made.
abbrev pub chain_stands : List Combine → List (Option Linear) → Bool
chain_stands [] rows = true
chain_stands (combine ∷ combines) rows =
    is_some (made combine rows) && chain_stands combines (rows ++ made combine rows ∷ [])

-- The row stands at its number.
abbrev pub HasNumber : List (Option Linear) → Numbered → Type 0
HasNumber rows numbered = slice_get rows numbered.number ≡ Some (Some numbered.row)

-- The rows without their numbers.
abbrev pub rows_in : List Numbered → List Linear
rows_in = map (λ numbered. numbered.row)

-- What an elimination has come to: the rows that are left, the sums made, and the next one's
-- number.
pub record State : Type 0 where
  pub kept : List Numbered
  pub combines : List Combine
  pub next : ℕ

abbrev pub state_of : Elimination → State
state_of left = record { kept = left.kept; combines = left.combines.items; next = left.next }

-- The sums can be made, and the kept rows and the others stand at their numbers.
pub record StandsAtNumbers (rows : List (Option Linear)) (others : List Numbered) (state : State) :
    Type 0 where
  pub made : chain_stands state.combines rows ≡ true
  pub count : length (rows_after state.combines rows) ≡ state.next
  pub others_stand : Each (HasNumber (rows_after state.combines rows)) others
  pub kept_stand : Each (HasNumber (rows_after state.combines rows)) state.kept

-- That, or the chain closes.
abbrev pub StaysSound : List (Option Linear) → List Numbered → State → Progress → Type 0
StaysSound rows others after Left = StandsAtNumbers rows others after
StaysSound rows others after Closed = chain_closes after.combines rows ≡ true
StaysSound rows others after Stopped = Unit {0}

-- Whatever other rows there are, those given and they stay at their numbers, or the chain closes.
abbrev pub KeepsSound : List Numbered → State → State → Progress → Type 0
KeepsSound given before after progress =
    (rows : List (Option Linear)) (others : List Numbered)
    → StandsAtNumbers rows (given ++ others) before
    → StaysSound rows (given ++ others) after progress
