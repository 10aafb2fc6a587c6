-- For private contracts: the literals of a cube, and the heights of their edges, as a solution.
use Rattle.std.specs.Prelude.{◌≡◌, true, ℕ, ◌+◌, ◌^◌, ◌-ℤ◌, List, [], ◌∷◌, map, Option, Some, None}
use Rattle.std.specs.Prelude.{if◌then◌else◌}
use Rattle.std.specs.List.{flat_map}
use Rattle.logic_linear.specs.LightCubes.{IsWithin}
use Rattle.logic_linear.specs.declared.formula.Formula.{Formula}
use Rattle.logic_linear.specs.Truth.{Valuation, truth_of}
use Rattle.logic_cert.specs.declared.cert.Literal.{Literal}
use Rattle.logic_cert.specs.declared.cert.Literal.TheVariants.{Row, Flag}
use Rattle.logic_solve.specs.declared.paths.Reached.{Reached}
use Rattle.logic_solve.specs.declared.valuation.NumberAt.{NumberAt}
use Rattle.logic_solve.specs.declared.valuation.Solution.{Solution}
use Rattle.logic_solve.specs.Solutions.{valuation_of}
use Rattle.logic_solve.specs.inner.Literals.{noted, terms_in_literals, AreDifferences, AreTrue}
use Rattle.logic_solve.specs.inner.Paths.{height_at}

-- Each vertex stands near 0.
abbrev pub AreNear : List Reached → Type 0
AreNear reached = (vertex : ℕ) → IsWithin (2 ^ 111) (height_at reached vertex)

-- How high the vertex of a place stands above the vertex 0.
abbrev pub number_in : List Reached → ℕ → NumberAt
number_in reached place = record {
  place = place;
  number = height_at reached (place + 1) -ℤ height_at reached 0;
}

-- The place of the flag, where the literal says that it is true.
abbrev pub true_places : Literal → List ℕ
true_places (Row form) = []
true_places (Flag place is) = if is then place ∷ [] else []

-- A number for each variable of the literals, and each flag that they say to be true.
pub record StandsSo (literals : List Literal) (reached : List Reached) (solution : Solution) :
    Type 0 where
  pub numbers : solution.numbers
      ≡ map (number_in reached) (noted [] (terms_in_literals literals))
  pub flags : solution.flags ≡ flat_map true_places literals

-- The formula is true at the solution.
abbrev pub Solves : Formula → Solution → Type 0
Solves formula solution = truth_of (valuation_of solution) formula ≡ true

-- The literals are true at the solution. There is none of literals that are difference rows only
-- where they are true at no valuation.
abbrev pub IsSolved : List Literal → Option Solution → Type 0
IsSolved literals (Some solution) = AreTrue (valuation_of solution) literals
IsSolved literals None =
    AreDifferences literals → (valuation : Valuation) → AreTrue valuation literals → ⊥
