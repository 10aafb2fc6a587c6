-- Which formulas have no certificate.
use Rattle.std.specs.Prelude.{◌≡◌, ◌⊎◌, ◌<◌, ◌≤◌, true, List, Option, Some, None}
use Rattle.logic_linear.specs.declared.formula.Formula.{Formula}
use Rattle.logic_linear.specs.Differences.{has_difference_rows}
use Rattle.logic_linear.specs.Fractions.{HasFractionalSolution}
use Rattle.logic_linear.specs.LightCubes.{IsLightCube}
use Rattle.logic_linear.specs.Measures.{cubes_of, MOST_CUBES}
use Rattle.logic_linear.specs.Truth.{Valuation, truth_of}
use Rattle.logic_cert.specs.declared.cert.Cert.{Cert}
use Rattle.logic_cert.specs.declared.cert.Literal.{Literal}
use Rattle.logic_cert.specs.Refutes.{Refutes}
use Rattle.logic_solve.specs.Cubes.{HasGeneral, HasNoClash, IsCubeOf, rows_of_literals}

-- The formula is true at some valuation in whole numbers.
abbrev pub HoldsSomewhere : Formula → Type 0
HoldsSomewhere formula = (valuation : Valuation) × (truth_of valuation formula ≡ true)

-- A cube of the formula has a row that is no difference row, no flag with opposite truths, and rows
-- that are no light cube or have a solution in fractions.
pub record HasUndecidedCube (formula : Formula) : Type 0 where
  pub cube : List Literal
  pub is_cube : IsCubeOf formula cube
  pub general : HasGeneral cube
  pub no_clash : HasNoClash cube
  pub light : IsLightCube (rows_of_literals cube) → HasFractionalSolution (rows_of_literals cube)

-- The formula has too many cubes, or holds somewhere, or has such a cube.
abbrev pub IsLeftOpen : Formula → Type 0
IsLeftOpen formula =
    (MOST_CUBES < cubes_of formula) ⊎ (HoldsSomewhere formula ⊎ HasUndecidedCube formula)

-- A certificate refutes the formula; there is none only where it is left open.
abbrev pub IsAnswer : Formula → Option Cert → Type 0
IsAnswer formula (Some cert) = Refutes formula cert
IsAnswer formula None = IsLeftOpen formula

-- A formula that is never left open, unless it holds somewhere.
pub record IsDecidable (formula : Formula) : Type 0 where
  pub differences : has_difference_rows formula ≡ true
  pub few_cubes : cubes_of formula ≤ MOST_CUBES
