-- What an assignment makes of valuations and formulas, and which formulas keep within the limits.
use Rattle.std.specs.Prelude.{map, ℕ, ℤ, pos, ◌+ℤ◌, neg_ℤ, int_le, int_lt, Bool, true, not, ◌&&◌}
use Rattle.std.specs.Prelude.{◌==◌, nat_le, if◌then◌else◌, List, [], ◌∷◌, Option, Some, None}
use Rattle.std.specs.List.{list_all, filter}
use Rattle.logic_linear.specs.declared.form.Term.{Term}
use Rattle.logic_linear.specs.declared.formula.Formula.{Formula}
use Rattle.logic_linear.specs.declared.formula.Formula.TheOpen.{Formula-F, Row, Flag, All, Any}
use Rattle.logic_linear.specs.declared.formula.Formula.TheViews.{roll-Formula}
use Rattle.logic_linear.specs.declared.formula.Formula.TheFolds.{fold-Formula}
use Rattle.logic_linear.specs.declared.substitution.Put.{Put}
use Rattle.logic_linear.specs.declared.substitution.Put.TheVariants.{Number, Truth}
use Rattle.logic_linear.specs.Linear.{FORM_BOUND, Linear}
use Rattle.logic_linear.specs.Measures.{nodes_of, MOST_NODES}
use Rattle.logic_linear.specs.Negation.{negation}
use Rattle.logic_linear.specs.Sums.{sum_of_multiples}
use Rattle.logic_linear.specs.Truth.{Valuation, value_of, truth_of}

-- ---- assignments

-- The valuation after an assignment.
abbrev pub assigned : Put → Valuation → Valuation
assigned (Number place form) valuation = record {
  number = λ at. if at == place then value_of valuation form else valuation.number at;
  flag = valuation.flag;
}
assigned (Truth place is) valuation = record {
  number = valuation.number;
  flag = λ at. if at == place then truth_of valuation is else valuation.flag at;
}

-- ---- forms

-- How many times the variable of a place counts.
abbrev pub times_at : ℕ → List Term → ℤ
times_at place [] = pos 0
times_at place (term ∷ terms) =
    if term.place == place then term.times +ℤ times_at place terms else times_at place terms

-- The term is not of the place.
abbrev pub is_other : ℕ → Term → Bool
is_other place term = not (term.place == place)

-- The form without the variable of a place.
abbrev pub without : ℕ → Linear → Linear
without place form = record { terms = filter (is_other place) form.terms; constant = form.constant }

-- The form with another in place of a variable.
abbrev pub replaced : ℕ → Linear → Linear → Linear
replaced place by form =
    sum_of_multiples (pos 1) (without place form) (times_at place form.terms) by

-- ---- formulas

-- A row after the assignment.
abbrev pub put_in_row : Put → Linear → Formula
put_in_row (Number place by) form = roll-Formula (Row (replaced place by form))
put_in_row (Truth place is) form = roll-Formula (Row form)

-- A flag after the assignment.
abbrev pub put_in_flag : Put → ℕ → Bool → Formula
put_in_flag (Number place by) at is = roll-Formula (Flag at is)
put_in_flag (Truth place by) at is =
    if at == place then (if is then by else negation by) else roll-Formula (Flag at is)

-- One layer of a formula after the assignment, given what it makes of the parts.
abbrev pub put_in_layer : Put → Formula-F Formula → Formula
put_in_layer put (Row form) = put_in_row put form
put_in_layer put (Flag at is) = put_in_flag put at is
put_in_layer put (All parts) = roll-Formula (All parts)
put_in_layer put (Any parts) = roll-Formula (Any parts)

-- The formula that is true where the given one is after the assignment.
abbrev pub substituted : Put → Formula → Formula
substituted put = fold-Formula Formula (put_in_layer put)

-- ---- limits

-- A number from -FORM_BOUND to FORM_BOUND - 1.
abbrev pub is_in_range : ℤ → Bool
is_in_range number = int_le (neg_ℤ (pos FORM_BOUND)) number && int_lt number (pos FORM_BOUND)

-- The number of a term is in range.
abbrev pub has_term_in_range : Term → Bool
has_term_in_range term = is_in_range term.times

-- Each number of a form is in range.
abbrev pub is_linear_in_range : Linear → Bool
is_linear_in_range linear = list_all has_term_in_range linear.terms && is_in_range linear.constant

-- Each number of a layer is in range, given whether those of its parts are.
abbrev pub range_layer : Formula-F Bool → Bool
range_layer (Row linear) = is_linear_in_range linear
range_layer (Flag place is) = true
range_layer (All parts) = list_all (λ part. part) parts
range_layer (Any parts) = list_all (λ part. part) parts

-- Each number of a formula is in range.
abbrev pub is_formula_in_range : Formula → Bool
is_formula_in_range = fold-Formula Bool range_layer

-- Each number of each formula is in range.
abbrev pub are_in_range : List Formula → Bool
are_in_range formulas = list_all (λ part. part) (map is_formula_in_range formulas)

-- Each number of a formula is in range, and it has no more than the most nodes.
abbrev pub is_formula_within : Formula → Bool
is_formula_within formula = is_formula_in_range formula && nat_le (nodes_of formula) MOST_NODES

-- The value where it passes the test, and else none.
abbrev pub where_true : {X : Type 0} → (X → Bool) → X → Option X
where_true test x = if test x then Some x else None

-- The formula where it keeps within the limits, and else none.
abbrev pub within_limits : Formula → Option Formula
within_limits formula = where_true is_formula_within formula
