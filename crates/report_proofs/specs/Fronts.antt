-- What stands at the front of a text, and what is left after it.
use Rattle.std.specs.Prelude.{◌≡◌, ℕ, List, ◌++◌, length, All, Option, Some, None, codes}
use Rattle.std.specs.Borrow.{Bor}
use Rattle.std.specs.List.{flat_map, zip}

-- what is left of the bytes after the text, and none where they don't begin with it
abbrev pub IsAfter : List ℕ → List ℕ → Option (Bor (List ℕ)) → Type 0
IsAfter bytes text (Some rest) = text ++ rest.now ≡ bytes
IsAfter bytes text None = (rest : List ℕ) → text ++ rest ≡ bytes → ⊥

-- The bytes are the text of a thing that is as it must be, and then the rest. With what may follow
-- it no other such thing stands there.
pub record IsFront (X : Type 0) (Is : X → Type 0) (Ends : List ℕ → Type 0) (text : X → List ℕ)
    (bytes : List ℕ) (found : X) (rest : List ℕ) : Type 0 where
  pub holds : Is found
  pub begins : text found ++ rest ≡ bytes
  pub only : (other : X) (more : List ℕ) → Is other → Ends more → text other ++ more ≡ bytes
      → (other ≡ found) × (more ≡ rest)

-- no such thing with what may follow it has these bytes
abbrev pub IsNoFront : (X : Type 0) → (X → Type 0) → (List ℕ → Type 0) → (X → List ℕ) → List ℕ
    → Type 0
IsNoFront X Is Ends text bytes =
    (other : X) (more : List ℕ) → Is other → Ends more → text other ++ more ≡ bytes → ⊥

-- anything
abbrev pub Anything : {X : Type 0} → X → Type 0
Anything x = Unit {0}

-- the bytes don't go on with the line of a kept candidate
abbrev pub IsAfterKept : List ℕ → Type 0
IsAfterKept text = (more : List ℕ) → text ≡ codes "keep " ++ more → ⊥

-- ---- a line for each item

-- as many values as items, each as it must be
pub record AreFor {I Y : Type 0} (items : List I) (Is : Y → Type 0) (values : List Y) :
    Type 0 where
  pub count : length values ≡ length items
  pub each : All Is values

-- the lines of items with their values
abbrev pub lines_of : {I Y : Type 0} → (I → Y → List ℕ) → List I → List Y → List ℕ
lines_of line items values = flat_map (λ one. line one.0 one.1) (zip items values)
