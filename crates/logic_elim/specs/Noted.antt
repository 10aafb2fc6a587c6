-- the places of variables, each once.
use Rattle.std.specs.Prelude.{ℕ, ◌==◌, if◌then◌else◌, List, [], ◌∷◌, ◌++◌}
use Rattle.std.specs.List.{flat_map, list_any}
use Rattle.logic_linear.specs.declared.form.Term.{Term}
use Rattle.logic_linear.specs.Linear.{Linear}

-- The places, and one more unless it is among them.
abbrev pub with_place : List ℕ → ℕ → List ℕ
with_place places place =
    if list_any (λ other. other == place) places then places else places ++ place ∷ []

-- The places, and those of the terms.
abbrev pub noted : List ℕ → List Term → List ℕ
noted places [] = places
noted places (term ∷ terms) = noted (with_place places term.place) terms

-- The terms of the rows.
abbrev pub terms_in : List Linear → List Term
terms_in = flat_map (λ row. row.terms)
