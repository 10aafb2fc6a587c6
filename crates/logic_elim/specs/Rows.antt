-- rows and what they say of each other.
use Rattle.std.specs.Prelude.{pos, int_le, Bool, true, false, ◌&&◌, if◌then◌else◌, List, [], ◌∷◌}
use Rattle.std.specs.Cmp.Lexicographic.{pointwise}
use Rattle.logic_linear.specs.declared.form.Term.{Term}
use Rattle.logic_linear.specs.Linear.{Linear, same_term}
use Rattle.logic_elim.specs.declared.rows.Numbered.{Numbered}

-- Whether there are terms.
abbrev pub has_terms : List Term → Bool
has_terms [] = false
has_terms (term ∷ terms) = true

-- The row has a variable.
abbrev pub has_variable : Linear → Bool
has_variable row = has_terms row.terms

-- No variable, and a constant that is not above 0: a row that holds everywhere.
abbrev pub says_nothing : Linear → Bool
says_nothing row = if has_variable row then false else int_le row.constant (pos 0)

-- The terms are the same.
abbrev pub same_terms : List Term → List Term → Bool
same_terms = pointwise same_term

-- The kept row has the same terms and says at least as much.
abbrev pub is_as_tight : Linear → Numbered → Bool
is_as_tight row kept = same_terms kept.row.terms row.terms && int_le row.constant kept.row.constant

-- The kept rows once the new one stands for the first with its terms, or at the end.
abbrev pub with_row : List Numbered → Numbered → List Numbered
with_row [] new = new ∷ []
with_row (first ∷ kept) new =
    if same_terms first.row.terms new.row.terms then (new ∷ kept) else (first ∷ with_row kept new)
