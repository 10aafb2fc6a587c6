-- chains in which each made row is needed.
use Rattle.std.specs.Prelude.{◌≡◌, ℕ, ◌+◌, ◌==◌, Bool, true, ◌||◌, List, [], ◌∷◌}
use Rattle.std.specs.List.{list_any}
use Rattle.logic_cert.specs.declared.cert.Combine.{Combine}

-- The sum is made of the row of this number and another.
abbrev pub uses : ℕ → Combine → Bool
uses number combine = (combine.left == number) || (combine.right == number)

-- No sum is made after the row of this number, or a later one is made of it.
abbrev pub is_needed : ℕ → List Combine → Bool
is_needed number [] = true
is_needed number (combine ∷ later) = list_any (uses number) (combine ∷ later)

-- Each made row but the last is used by a later one. The first of them has this number.
abbrev pub IsLean : ℕ → List Combine → Type 0
IsLean first [] = Unit {0}
IsLean first (combine ∷ later) = (is_needed first later ≡ true) × IsLean (first + 1) later
