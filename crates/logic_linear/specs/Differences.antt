-- Rows that bound one variable, or the difference of two, and formulas of such rows alone. By the
-- rule of a form its
-- terms are of different variables.
use Rattle.std.specs.Prelude.{ℤ, pos, neg_ℤ, Bool, List, [], ◌∷◌, map}
use Rattle.std.specs.List.{list_all, list_any}
use Rattle.std.specs.Ordering.{int_eq}
use Rattle.std.specs.Cmp.Lexicographic.{pointwise}
use Rattle.logic_linear.specs.declared.form.Term.{Term}
use Rattle.logic_linear.specs.declared.formula.Formula.{Formula}
use Rattle.logic_linear.specs.Linear.{Linear}
use Rattle.logic_linear.specs.Places.{rows_of}

-- How many times a term's variable counts.
abbrev pub times_of : Term → ℤ
times_of term = term.times

-- The numbers of no variables, of x and -x, and of x - y where x or y has the lower place.
abbrev pub difference_numbers : List (List ℤ)
difference_numbers =
    [] ∷ (pos 1 ∷ []) ∷ (neg_ℤ (pos 1) ∷ [])
    ∷ (pos 1 ∷ neg_ℤ (pos 1) ∷ []) ∷ (neg_ℤ (pos 1) ∷ pos 1 ∷ []) ∷ []

-- The row is x - y <= c, x <= c, -x <= c, or has no variables.
abbrev pub is_difference : Linear → Bool
is_difference linear = list_any (pointwise int_eq (map times_of linear.terms)) difference_numbers

-- Each row of the formula is such a row.
abbrev pub has_difference_rows : Formula → Bool
has_difference_rows formula = list_all is_difference (rows_of formula)
