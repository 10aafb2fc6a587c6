-- Valuations that are given as lists, and which formulas are given none.
use Rattle.std.specs.Prelude.{◌≡◌, ℕ, ℤ, pos, ◌==◌, Bool, true, false, List, [], ◌∷◌, Option, Some}
use Rattle.std.specs.Prelude.{None, if◌then◌else◌}
use Rattle.std.specs.List.{list_any}
use Rattle.logic_linear.specs.declared.formula.Formula.{Formula}
use Rattle.logic_linear.specs.Truth.{Valuation, truth_of}
use Rattle.logic_solve.specs.declared.valuation.NumberAt.{NumberAt}
use Rattle.logic_solve.specs.declared.valuation.Solution.{Solution}
use Rattle.logic_solve.specs.Refutation.{IsDecidable}

-- The number that the list gives first to the place, and 0 where it gives none.
abbrev pub number_among : List NumberAt → ℕ → ℤ
number_among [] place = pos 0
number_among (first ∷ numbers) place =
    if first.place == place then first.number else number_among numbers place

-- The place is one of the list.
abbrev pub is_listed : List ℕ → ℕ → Bool
is_listed places place = list_any (λ other. other == place) places

-- The numbers that are given, and 0 at each other place; just those flags are true that are listed.
abbrev pub valuation_of : Solution → Valuation
valuation_of solution = record {
  number = λ place. number_among solution.numbers place;
  flag = λ place. is_listed solution.flags place;
}

-- The formula is true at the solution. There is none of a formula of difference rows with few cubes
-- only where it is true at no valuation.
abbrev pub IsSolution : Formula → Option Solution → Type 0
IsSolution formula (Some solution) = truth_of (valuation_of solution) formula ≡ true
IsSolution formula None =
    IsDecidable formula → (valuation : Valuation) → truth_of valuation formula ≡ false
