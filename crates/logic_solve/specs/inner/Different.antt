-- For private contracts: lists of different things, and lists that grow.
use Rattle.std.specs.Prelude.{◌≡◌, ◌⊎◌, List, [], ◌∷◌, ◌++◌}
use Rattle.std.specs.List.{AllByRecursion as Each}

-- The thing is one of these.
abbrev pub Among : {X : Type 0} → X → List X → Type 0
Among x [] = ⊥
Among x (y ∷ ys) = (y ≡ x) ⊎ Among x ys

-- No two of these are the same.
abbrev pub Different : {X : Type 0} → List X → Type 0
Different [] = Unit {0}
Different {X} (x ∷ xs) = Each (λ (y : X). x ≡ y → ⊥) xs × Different xs

-- Things were put after those that there were.
abbrev pub IsGrown : {X : Type 0} → List X → List X → Type 0
IsGrown {X} xs after = (more : List X) × (after ≡ xs ++ more)
