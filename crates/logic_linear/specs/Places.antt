-- The rows of a formula, and the places of their variables.
use Rattle.std.specs.Prelude.{◌≡◌, ◌⊎◌, ℕ, List, [], ◌∷◌}
use Rattle.std.specs.List.{flat_map, AllByRecursion as Each}
use Rattle.logic_linear.specs.declared.form.Term.{Term}
use Rattle.logic_linear.specs.declared.formula.Formula.{Formula}
use Rattle.logic_linear.specs.declared.formula.Formula.TheOpen.{Formula-F, Row, Flag, All, Any}
use Rattle.logic_linear.specs.declared.formula.Formula.TheFolds.{fold-Formula}
use Rattle.logic_linear.specs.Linear.{Linear}

-- The rows of one layer of a formula, given those of its parts.
abbrev pub rows_layer : Formula-F (List Linear) → List Linear
rows_layer (Row form) = form ∷ []
rows_layer (Flag place is) = []
rows_layer (All parts) = flat_map (λ rows. rows) parts
rows_layer (Any parts) = flat_map (λ rows. rows) parts

-- The rows of a formula, from left to right.
abbrev pub rows_of : Formula → List Linear
rows_of = fold-Formula (List Linear) rows_layer

-- The place is one of the places.
abbrev pub IsIn : List ℕ → ℕ → Type 0
IsIn [] place = ⊥
IsIn (other ∷ others) place = (place ≡ other) ⊎ IsIn others place

-- Each term is of one of the places.
abbrev pub HasPlaces : List ℕ → List Term → Type 0
HasPlaces places terms = Each (λ (term : Term). IsIn places term.place) terms
