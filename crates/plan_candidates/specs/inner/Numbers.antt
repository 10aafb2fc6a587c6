-- The numbers with which a field is compared, as the code gathers them.
use Rattle.std.specs.Prelude.{ℕ, ℤ, neg_ℤ, not, ◌&&◌, nat_lt, List, [], ◌∷◌, ◌++◌, length}
use Rattle.std.specs.Prelude.{if◌then◌else◌}
use Rattle.std.specs.List.{flat_map, list_any}
use Rattle.std.specs.Ordering.{int_eq}
use Rattle.logic_linear.specs.declared.form.Term.{Term}
use Rattle.logic_linear.specs.declared.formula.Formula.{Formula}
use Rattle.logic_linear.specs.Linear.{Linear, same_term}
use Rattle.logic_linear.specs.Places.{rows_of}
use Rattle.lang_monitor.specs.Candidates.{around, bound_of, once, opposite, MOST_BOUNDS}

-- the bound that a row of one term and this constant sets on the field
abbrev pub bound_of_term : ℕ → Term → ℤ → List ℤ
bound_of_term field term constant =
    if same_term term (once field) then neg_ℤ constant ∷ []
    else if same_term term (opposite field) then constant ∷ []
    else []

-- the numbers around the bound of a row, where it bounds the field and nothing else
abbrev pub row_numbers : ℕ → Linear → List ℤ
row_numbers field form = flat_map around (bound_of field form)

-- those of each row
abbrev pub formula_numbers : ℕ → Formula → List ℤ
formula_numbers field formula = flat_map (row_numbers field) (rows_of formula)

-- the pool with one more number, unless it is full or has the number
abbrev pub with_number : List ℤ → ℤ → List ℤ
with_number pool number =
    if nat_lt (length pool) MOST_BOUNDS && not (list_any (λ other. int_eq other number) pool)
    then pool ++ number ∷ [] else pool
