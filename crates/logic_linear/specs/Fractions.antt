-- Rows that hold where each variable is a fraction, over one denominator.
use Rattle.std.specs.Prelude.{ℤ, pos, ◌+ℤ◌, ◌*ℤ◌, ◌≤ℤ◌, ◌<ℤ◌, List}
use Rattle.std.specs.List.{AllByRecursion as Each}
use Rattle.logic_linear.specs.Linear.{Linear}
use Rattle.logic_linear.specs.Truth.{Valuation, sum_of}

-- The row's value at these fractions, times their denominator.
abbrev pub worth : Valuation → ℤ → Linear → ℤ
worth numerators denominator row = sum_of numerators row.terms +ℤ row.constant *ℤ denominator

-- The row holds at these fractions.
abbrev pub HoldsOver : Valuation → ℤ → Linear → Type 0
HoldsOver numerators denominator row = worth numerators denominator row ≤ℤ pos 0

-- All rows hold at some fractions.
pub record HasFractionalSolution (rows : List Linear) : Type 0 where
  pub numerators : Valuation
  pub denominator : ℤ
  pub positive : pos 0 <ℤ denominator
  pub each : Each (HoldsOver numerators denominator) rows
