-- What a form is worth, and where a formula is true.
use Rattle.std.specs.Prelude.{ℕ, ℤ, pos, ◌+ℤ◌, ◌*ℤ◌, int_le, Bool, not, if◌then◌else◌, List, []}
use Rattle.std.specs.Prelude.{◌∷◌}
use Rattle.std.specs.List.{list_all, list_any}
use Rattle.logic_linear.specs.declared.form.Term.{Term}
use Rattle.logic_linear.specs.declared.formula.Formula.{Formula}
use Rattle.logic_linear.specs.declared.formula.Formula.TheOpen.{Formula-F, Row, Flag, All, Any}
use Rattle.logic_linear.specs.declared.formula.Formula.TheFolds.{fold-Formula}
use Rattle.logic_linear.specs.Linear.{Linear}

-- A whole number and a truth value at each place.
pub record Valuation : Type 0 where
  pub number : ℕ → ℤ
  pub flag : ℕ → Bool

-- The sum of the terms' values.
abbrev pub sum_of : Valuation → List Term → ℤ
sum_of valuation [] = pos 0
sum_of valuation (term ∷ terms) =
    term.times *ℤ valuation.number term.place +ℤ sum_of valuation terms

-- The value of a form.
abbrev pub value_of : Valuation → Linear → ℤ
value_of valuation linear = sum_of valuation linear.terms +ℤ linear.constant

-- One layer of a formula, given the truth of its parts.
abbrev pub layer_truth : Valuation → Formula-F Bool → Bool
layer_truth valuation (Row linear) = int_le (value_of valuation linear) (pos 0)
layer_truth valuation (Flag place is) =
    if is then valuation.flag place else not (valuation.flag place)
layer_truth valuation (All parts) = list_all (λ part. part) parts
layer_truth valuation (Any parts) = list_any (λ part. part) parts

-- Whether a formula is true.
abbrev pub truth_of : Valuation → Formula → Bool
truth_of valuation = fold-Formula Bool (layer_truth valuation)
