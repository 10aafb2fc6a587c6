-- For private contracts: values that keep within a limit, and else none.
use Rattle.std.specs.Prelude.{ℕ, ◌+◌, sum, map, List, Option}
use Rattle.std.specs.List.{list_all}
use Rattle.logic_linear.specs.declared.form.Term.{Term}
use Rattle.logic_linear.specs.declared.formula.Formula.{Formula}
use Rattle.logic_linear.specs.Linear.{Linear}
use Rattle.logic_linear.specs.Measures.{nodes_of}
use Rattle.logic_linear.specs.Substitution.{where_true, is_linear_in_range, is_formula_in_range}
use Rattle.logic_linear.specs.Substitution.{are_in_range}
use Rattle.logic_linear.specs.Sums.{term_fits}

-- The form, where its numbers are in range.
abbrev pub form_in_range : Linear → Option Linear
form_in_range form = where_true is_linear_in_range form

-- The formula, where its numbers are in range.
abbrev pub in_range : Formula → Option Formula
in_range formula = where_true is_formula_in_range formula

-- The formulas, where their numbers are in range.
abbrev pub all_in_range : List Formula → Option (List Formula)
all_in_range formulas = where_true are_in_range formulas

-- The terms, where their numbers fit 128 bits.
abbrev pub fitting : List Term → Option (List Term)
fitting terms = where_true (list_all term_fits) terms

-- The nodes of an all of these parts.
abbrev pub nodes_of_all : List Formula → ℕ
nodes_of_all parts = 1 + sum (map nodes_of parts)
