-- The negation of a formula, and which formulas it can be made of.
use Rattle.std.specs.Prelude.{ℤ, pos, ◌-ℤ◌, neg_ℤ, int_le, Bool, true, not, ◌&&◌, map}
use Rattle.std.specs.List.{list_all}
use Rattle.logic_linear.specs.declared.form.Term.{Term}
use Rattle.logic_linear.specs.declared.formula.Formula.{Formula}
use Rattle.logic_linear.specs.declared.formula.Formula.TheOpen.{Formula-F, Row, Flag, All, Any}
use Rattle.logic_linear.specs.declared.formula.Formula.TheViews.{roll-Formula}
use Rattle.logic_linear.specs.declared.formula.Formula.TheFolds.{fold-Formula}
use Rattle.logic_linear.specs.Linear.{FORM_BOUND, Linear}

-- The term with its number's sign turned.
abbrev pub negative_term : Term → Term
negative_term term = record { place = term.place; times = neg_ℤ term.times }

-- 1 minus the form.
abbrev pub one_less : Linear → Linear
one_less linear = record {
  terms = map negative_term linear.terms;
  constant = pos 1 -ℤ linear.constant;
}

-- One layer of a formula turned, given the negations of its parts.
abbrev pub opposite : Formula-F Formula → Formula-F Formula
opposite (Row linear) = Row (one_less linear)
opposite (Flag place is) = Flag place (not is)
opposite (All parts) = Any parts
opposite (Any parts) = All parts

-- The formula of the turned layer.
abbrev pub layer_negation : Formula-F Formula → Formula
layer_negation layer = roll-Formula (opposite layer)

-- The negation of a formula.
abbrev pub negation : Formula → Formula
negation = fold-Formula Formula layer_negation

-- A number is at least 2 - FORM_BOUND.
abbrev pub can_negate_number : ℤ → Bool
can_negate_number number = int_le (pos 2 -ℤ pos FORM_BOUND) number

-- The number of a term is at least that.
abbrev pub can_negate_term : Term → Bool
can_negate_term term = can_negate_number term.times

-- Each number of a form is at least that.
abbrev pub can_negate_linear : Linear → Bool
can_negate_linear linear =
    list_all can_negate_term linear.terms && can_negate_number linear.constant

-- Each number of a layer is, given whether those of its parts are.
abbrev pub can_negate_layer : Formula-F Bool → Bool
can_negate_layer (Row linear) = can_negate_linear linear
can_negate_layer (Flag place is) = true
can_negate_layer (All parts) = list_all (λ part. part) parts
can_negate_layer (Any parts) = list_all (λ part. part) parts

-- Each number of a formula is at least 2 - FORM_BOUND, so that those of its negation are in range.
abbrev pub can_negate : Formula → Bool
can_negate = fold-Formula Bool can_negate_layer
