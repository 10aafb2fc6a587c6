-- what sums of two rows add to what there is.
use Rattle.std.specs.Global.{Global}
use Rattle.std.specs.Prelude.{◌≡◌, ◌⊎◌, Vec, ℕ, ◌+◌, ◌<◌, ◌≤◌, ◌^◌, ℤ, pos, neg_ℤ, ◌<ℤ◌, int_le}
use Rattle.std.specs.Prelude.{Bool, false, true, ◌&&◌, ◌||◌, List, [], ◌∷◌, ◌++◌, length, map}
use Rattle.std.specs.Prelude.{Option, Some, None, MatchOption}
use Rattle.std.specs.List.{filter, flat_map, list_any, AllByRecursion as Each}
use Rattle.logic_linear.specs.Linear.{Linear}
use Rattle.logic_linear.specs.Substitution.{times_at}
use Rattle.logic_linear.specs.Sums.{fits_128, sum_fits}
use Rattle.logic_linear.specs.Truth.{Valuation}
use Rattle.logic_cert.specs.declared.cert.Combine.{Combine}
use Rattle.logic_cert.specs.Refutes.{is_absurd, made_of}
use Rattle.logic_elim.specs.declared.rows.Numbered.{Numbered}
use Rattle.logic_elim.specs.declared.elimination.Elimination.{Elimination}
use Rattle.logic_elim.specs.declared.elimination.Progress.{Progress}
use Rattle.logic_elim.specs.declared.elimination.Progress.TheVariants.{Left, Closed, Stopped}
use Rattle.logic_elim.specs.Eliminations.{is_upper, is_lower, is_free, sum_row}
use Rattle.logic_linear.specs.Fractions.{HoldsOver}
use Rattle.logic_elim.specs.Chains.{State, rows_in, state_of}
use Rattle.logic_elim.specs.Rows.{has_variable, is_as_tight, says_nothing, with_row}

-- ---- one row

-- The row under the next number.
abbrev pub next_row : State → Linear → Numbered
next_row state row = record { number = state.next; row = row }

-- The row holds everywhere, or a kept one says as much.
abbrev pub is_known : State → Linear → Bool
is_known state row = says_nothing row || list_any (is_as_tight row) state.kept

-- Nothing changed.
pub record IsKnown (row : Linear) (before after : State) : Type 0 where
  pub known : is_known before row ≡ true
  pub same : after ≡ before

-- The row says more than those kept, and holds somewhere.
pub record IsNews (row : Linear) (before : State) : Type 0 where
  pub new : is_known before row ≡ false
  pub sane : is_absurd row ≡ false

-- The row was put among the kept ones.
pub record IsPut (combine : Combine) (row : Linear) (before after : State) : Type 0 where
  pub news : IsNews row before
  pub kept : after.kept ≡ with_row before.kept (next_row before row)
  pub combines : after.combines ≡ before.combines ++ combine ∷ []
  pub next : after.next ≡ before.next + 1

-- The row closes the chain.
pub record ClosesChain (combine : Combine) (row : Linear) (before after : State) : Type 0 where
  pub absurd_row : is_absurd row ≡ true
  pub combines : after.combines ≡ before.combines ++ combine ∷ []

-- There is no number for the row, or no room.
abbrev pub HasNoRoom : ℕ → Linear → State → Type 0
HasNoRoom most row before =
    (2 ^ 32 ≤ before.next + 1)
    ⊎ (IsNews row before × (most < length (with_row before.kept (next_row before row))))

abbrev pub IsAdded : ℕ → Combine → Linear → State → State → Progress → Type 0
IsAdded most combine row before after Left =
    IsKnown row before after ⊎ IsPut combine row before after
IsAdded most combine row before after Closed = ClosesChain combine row before after
IsAdded most combine row before after Stopped = HasNoRoom most row before

-- ---- one sum

-- The sum in which the variable goes can be made, and every number fits.
pub record CanAdd (place : ℕ) (upper lower : Linear) : Type 0 where
  pub turned : fits_128 (neg_ℤ (times_at place lower.terms)) ≡ true
  pub factors : (int_le (pos 0) (neg_ℤ (times_at place lower.terms)) && int_le (pos 0) (times_at
      place upper.terms)) ≡ true
  pub fits : sum_fits (neg_ℤ (times_at place lower.terms)) upper (times_at place upper.terms) lower
      ≡ true

-- That sum of the two numbered rows.
abbrev pub cancelling : ℕ → Numbered → Numbered → Combine
cancelling place upper lower = record {
  left = upper.number;
  left_times = neg_ℤ (times_at place lower.row.terms);
  right = lower.number;
  right_times = times_at place upper.row.terms;
}

-- The answer is that sum, or its factor does not fit.
abbrev pub Cancels : ℕ → Numbered → Numbered → Option Combine → Type 0
Cancels place upper lower answer =
    MatchOption answer (fits_128 (neg_ℤ (times_at place lower.row.terms)) ≡ false)
    (λ combine. combine ≡ cancelling place upper lower)

-- The row that it makes.
abbrev pub sum_at : ℕ → Numbered → Numbered → Option Linear
sum_at place upper lower =
    made_of (cancelling place upper lower) (Some (Some upper.row)) (Some (Some lower.row))

-- A number leaves 128 bits, or the sum has no room.
abbrev pub CannotAdd : ℕ → ℕ → Numbered → Numbered → State → Type 0
CannotAdd most place upper lower before =
    (fits_128 (neg_ℤ (times_at place lower.row.terms)) ≡ false)
    ⊎ ((sum_at place upper lower ≡ None)
    ⊎ ((row : Linear) × (sum_at place upper lower ≡ Some row) × HasNoRoom most row before))

abbrev pub IsSummed : ℕ → ℕ → Numbered → Numbered → State → State → Progress → Type 0
IsSummed most place upper lower before after Stopped = CannotAdd most place upper lower before
IsSummed most place upper lower before after progress =
    (row : Linear) × (sum_at place upper lower ≡ Some row)
    × IsAdded most (cancelling place upper lower) row before after progress

abbrev pub SumAdded : ℕ → ℕ → Numbered → Numbered → Elimination → Elimination → Progress → Type 0
SumAdded most place upper lower before after =
    IsSummed most place upper lower (state_of before) (state_of after)

-- ---- many sums

abbrev pub RowsHold : Valuation → ℤ → List Numbered → Type 0
RowsHold numerators denominator kept =
    Each (λ (numbered : Numbered). HoldsOver numerators denominator numbered.row) kept

-- No two rows have the same terms.
abbrev pub Apart : List Numbered → Type 0
Apart [] = Unit {0}
Apart (numbered ∷ others) =
    Each (λ (other : Numbered). numbered.row.terms ≡ other.row.terms → ⊥) others × Apart others

-- One of the rows.
abbrev pub Among : Linear → List Linear → Type 0
Among row [] = ⊥
Among row (first ∷ rows) = (first ≡ row) ⊎ Among row rows

-- One of the sums, and not absurd.
abbrev pub IsSumAmong : List Linear → Linear → Type 0
IsSumAmong sums row = Among row sums × (is_absurd row ≡ false)

-- Each row after is one before or a sum, and they grow by no more than the sums with variables.
pub record ComesOf (sums : List Linear) (before after : List Numbered) : Type 0 where
  pub from : (row : Linear) → Among row (rows_in after)
      → Among row (rows_in before) ⊎ IsSumAmong sums row
  pub count : length after ≤ length before + length (filter has_variable sums)
  pub apart : Apart before → Apart after

-- The sums were added: where the rows hold that are kept then, those before and the sums hold.
pub record HasSums (sums : List Linear) (before after : State) : Type 0 where
  pub comes : ComesOf sums before.kept after.kept
  pub next : after.next ≤ before.next + length sums
  pub covers : (numerators : Valuation) (denominator : ℤ) → pos 0 <ℤ denominator
      → RowsHold numerators denominator after.kept → RowsHold numerators denominator before.kept
  pub sums_hold : (numerators : Valuation) (denominator : ℤ) → pos 0 <ℤ denominator
      → RowsHold numerators denominator after.kept → Each (HoldsOver numerators denominator) sums

-- Some of the sums make too many rows.
pub record HasTooMany (most : ℕ) (sums : List Linear) (before : State) : Type 0 where
  pub many : List Numbered
  pub long : most < length many
  pub comes : ComesOf sums before.kept many

abbrev pub Adds : ℕ → Type 0 → List Linear → State → State → Progress → Type 0
Adds most can sums before after Left = HasSums sums before after
Adds most can sums before after Closed = Unit {0}
Adds most can sums before after Stopped =
    can → before.next + length sums < 2 ^ 32 → HasTooMany most sums before

-- The sums of the upper row and each lower one.
abbrev pub sums_with : ℕ → Numbered → List Numbered → List Linear
sums_with place upper lowers = map (λ lower. sum_row place upper.row lower.row) lowers

-- The sums of each upper row and each lower one.
abbrev pub sums_between : ℕ → List Numbered → List Numbered → List Linear
sums_between place uppers lowers = flat_map (λ upper. sums_with place upper lowers) uppers

abbrev pub CanAddLowers : ℕ → List Numbered → Numbered → Type 0
CanAddLowers place lowers upper =
    Each (λ (lower : Numbered). CanAdd place upper.row lower.row) lowers

abbrev pub CanAddSides : ℕ → List Numbered → List Numbered → Type 0
CanAddSides place uppers lowers = Each (CanAddLowers place lowers) uppers

abbrev pub AddsLowers : ℕ → ℕ → Numbered → List Numbered → State → State → Progress → Type 0
AddsLowers most place upper lowers before after =
    Adds most (CanAddLowers place lowers upper) (sums_with place upper lowers) before after

abbrev pub AddsSides : ℕ → ℕ → List Numbered → List Numbered → State → State → Progress → Type 0
AddsSides most place uppers lowers before after =
    Adds most (CanAddSides place uppers lowers) (sums_between place uppers lowers) before after

-- ---- a variable

abbrev pub is_upper_row : ℕ → Numbered → Bool
is_upper_row place numbered = is_upper place numbered.row

abbrev pub is_lower_row : ℕ → Numbered → Bool
is_lower_row place numbered = is_lower place numbered.row

abbrev pub is_free_row : ℕ → Numbered → Bool
is_free_row place numbered = is_free place numbered.row

-- The row is put at the end, where it passes the test.
abbrev pub Pushes : (Numbered → Bool) → Numbered → Vec Numbered Global → Vec Numbered Global
    → Type 0
Pushes test numbered before after = after.items ≡ before.items ++ filter test (numbered ∷ [])

-- The rows that are free of the variable.
abbrev pub free_state : ℕ → State → State
free_state place before =
    record {
      kept = filter (is_free_row place) before.kept;
      combines = before.combines;
      next = before.next;
    }

-- To the rows that are free of the variable, the sums of each upper and each lower row are added.
abbrev pub Eliminates : ℕ → ℕ → State → State → Progress → Type 0
Eliminates most place before after =
    AddsSides most place (filter (is_upper_row place) before.kept)
    (filter (is_lower_row place) before.kept) (free_state place before) after
