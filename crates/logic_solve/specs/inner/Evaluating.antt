-- For private contracts: the parts of a formula.
use Rattle.std.specs.Prelude.{Bool, List, map}
use Rattle.std.specs.List.{list_all, list_any, Contains}
use Rattle.logic_linear.specs.declared.formula.Formula.{Formula}
use Rattle.logic_linear.specs.Truth.{Valuation, truth_of}
use Rattle.logic_solve.specs.WideNumbers.{IsWideFormula}

abbrev pub all_true : Valuation → List Formula → Bool
all_true v parts = list_all (λ part. part) (map (truth_of v) parts)

abbrev pub any_true : Valuation → List Formula → Bool
any_true v parts = list_any (λ part. part) (map (truth_of v) parts)

-- some part of a formula is wide
pub record HasWidePart (v : Valuation) (parts : List Formula) : Type 0 where
  pub part : Formula
  pub there : Contains parts part
  pub wide : IsWideFormula v part
