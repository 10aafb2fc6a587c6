-- For private contracts: the literals that say something new.
use Rattle.std.specs.Prelude.{◌≡◌, ◌⊎◌, ◌≤◌, ℕ, ◌+◌, ◌-◌, ◌==◌, ◌&&◌, Bool, false, not}
use Rattle.std.specs.Prelude.{if◌then◌else◌, List, [], ◌∷◌, ◌++◌, map, take, length, Option, Some}
use Rattle.std.specs.Prelude.{None, slice_get}
use Rattle.std.specs.List.{AllByRecursion as Each}
use Rattle.logic_cert.specs.declared.cert.Cert.{Cert}
use Rattle.logic_cert.specs.declared.cert.Cert.TheOpen.{Cert-F, Split, Clash, Chain, Cases}
use Rattle.logic_cert.specs.declared.cert.Combine.{Combine}
use Rattle.logic_cert.specs.declared.cert.Literal.{Literal}
use Rattle.logic_cert.specs.declared.cert.Literal.TheVariants.{Row, Flag}
use Rattle.logic_solve.specs.Cubes.{rows_of_literals}
use Rattle.logic_solve.specs.declared.facts.Facts.{Facts}
use Rattle.logic_solve.specs.declared.facts.Mark.{Mark}
use Rattle.logic_solve.specs.inner.Different.{Among, IsGrown}

-- The literal is the flag at the place with this truth.
abbrev pub is_flag : ℕ → Bool → Literal → Bool
is_flag place is (Row form) = false
is_flag place is (Flag other other_is) =
    (other == place) && (if other_is then is else not is)

-- The literal was put after the facts, under its number.
pub record IsPut (number : ℕ) (literal : Literal) (facts : List Literal) (numbers : List ℕ)
    (facts_after : List Literal) (numbers_after : List ℕ) : Type 0 where
  pub facts_are : facts_after ≡ facts ++ literal ∷ []
  pub numbers_are : numbers_after ≡ numbers ++ number ∷ []

-- Or it is a flag that is one of them, and nothing changed.
pub record IsKnown (literal : Literal) (facts : List Literal) (numbers : List ℕ)
    (facts_after : List Literal) (numbers_after : List ℕ) : Type 0 where
  pub place : ℕ
  pub truth : Bool
  pub is : literal ≡ Flag place truth
  pub among : Among literal facts
  pub facts_same : facts_after ≡ facts
  pub numbers_same : numbers_after ≡ numbers

abbrev pub IsNoted : ℕ → Literal → List Literal → List ℕ → List Literal → List ℕ → Type 0
IsNoted number literal facts numbers facts_after numbers_after =
    IsPut number literal facts numbers facts_after numbers_after
    ⊎ IsKnown literal facts numbers facts_after numbers_after

-- Each fact stands among the literals at its number, and some of the literals are facts all.
pub record AreFacts (literals some facts : List Literal) (numbers : List ℕ) : Type 0 where
  pub fewer : length facts ≤ length some
  pub count : length numbers ≡ length facts
  pub stand : (k : ℕ) (fact : Literal) → slice_get facts k ≡ Some fact
      → (n : ℕ) × ((slice_get numbers k ≡ Some n) × (slice_get literals n ≡ Some fact))
  pub covers : Each (λ (literal : Literal). Among literal facts) some
  pub rows : rows_of_literals some ≡ rows_of_literals facts

-- They are the facts of the first literals, of so many as were looked at.
pub record AreFactsOf (literals : List Literal) (facts : Facts) : Type 0 where
  pub within : facts.looked ≤ length literals
  pub are : AreFacts literals (take facts.looked literals) facts.literals.items facts.numbers.items

-- Facts were put after those that there were.
pub record AreMore (facts after : Facts) : Type 0 where
  pub literals : IsGrown facts.literals.items after.literals.items
  pub numbers : IsGrown facts.numbers.items after.numbers.items

-- The mark says how many there are.
pub record IsMarked (facts : Facts) (mark : Mark) : Type 0 where
  pub facts_are : mark.facts ≡ length facts.literals.items
  pub looked_is : mark.looked ≡ facts.looked

-- Those after the mark went.
pub record IsCutBack (mark : Mark) (facts after : Facts) : Type 0 where
  pub literals_are : after.literals.items ≡ take mark.facts facts.literals.items
  pub numbers_are : after.numbers.items ≡ take mark.facts facts.numbers.items
  pub looked_is : after.looked ≡ mark.looked

-- ---- numbers among the literals

-- Of a fact its number among the literals, else that of a sum.
abbrev pub moved_at : Option ℕ → ℕ → ℕ
moved_at (Some at) sum = at
moved_at None sum = sum

-- The number of a fact or a sum, among so many literals.
abbrev pub moved : List ℕ → ℕ → ℕ → ℕ
moved numbers count number =
    moved_at (slice_get numbers number) ((number - length numbers) + count)

abbrev pub moved_sum : List ℕ → ℕ → Combine → Combine
moved_sum numbers count sum = record {
  left = moved numbers count sum.left;
  left_times = sum.left_times;
  right = moved numbers count sum.right;
  right_times = sum.right_times;
}

abbrev pub IsMovedClash : List ℕ → ℕ → ℕ → ℕ → Cert-F Cert → Type 0
IsMovedClash numbers count left right (Split certs) = ⊥
IsMovedClash numbers count left right (Clash left_after right_after) =
    (left_after ≡ moved numbers count left) × (right_after ≡ moved numbers count right)
IsMovedClash numbers count left right (Chain sums) = ⊥
IsMovedClash numbers count left right (Cases form below above) = ⊥

abbrev pub IsMovedChain : List ℕ → ℕ → List Combine → Cert-F Cert → Type 0
IsMovedChain numbers count sums (Split certs) = ⊥
IsMovedChain numbers count sums (Clash left right) = ⊥
IsMovedChain numbers count sums (Chain sums_after) =
    sums_after ≡ map (moved_sum numbers count) sums
IsMovedChain numbers count sums (Cases form below above) = ⊥

-- The same clash or chain, with its numbers among so many literals.
abbrev pub IsMoved : List ℕ → ℕ → Cert-F Cert → Cert-F Cert → Type 0
IsMoved numbers count (Split certs) after = ⊥
IsMoved numbers count (Clash left right) after = IsMovedClash numbers count left right after
IsMoved numbers count (Chain sums) after = IsMovedChain numbers count sums after
IsMoved numbers count (Cases form below above) after = ⊥
