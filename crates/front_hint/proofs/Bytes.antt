-- Bytes that are written one by one.
use Rattle.std.proofs.Common.{◌≡◌, ℕ, ◌∷◌, List, [], map, refl, ap}
use Rattle.std.specs.List.{flat_map}

-- a list of one element for each element is the list of these elements
pub map_by_one : (f : ℕ → ℕ) (bytes : List ℕ) → flat_map (λ byte. f byte ∷ []) bytes ≡ map f bytes
map_by_one f [] = refl
map_by_one f (byte ∷ more) = ap (λ rest. f byte ∷ rest) (map_by_one f more)
