-- What is read at the front of a text.
use Rattle.std.specs.Prelude.{◌≡◌, ℕ, false, ⊤, List, [], ◌∷◌, ◌++◌, Option, IfSome, IsSomeAnd}
use Rattle.std.specs.Borrow.{Bor}
use Rattle.lang_base.specs.Identifiers.{is_digit}

-- No digit comes next.
abbrev pub EndsNumber : List ℕ → Type 0
EndsNumber [] = ⊤
EndsNumber (byte ∷ bytes) = is_digit byte ≡ false

-- What was read at the front of the bytes, and what is left after it: the bytes are its text and
-- what is left. Where the bytes are the text of a value that fits, and then no digit, that value
-- was read.
pub record IsRead {A : Type 0} (text : A → List ℕ) (Fits : A → Type 0) (bytes : List ℕ)
    (read : Option (A × Bor (List ℕ))) : Type 0 where
  pub found : IfSome read (λ one. Fits one.0 × (text one.0 ++ one.1.now ≡ bytes))
  pub again : (value : A) (left : List ℕ) → Fits value → EndsNumber left
      → text value ++ left ≡ bytes → IsSomeAnd read (λ one. (one.0 ≡ value) × (one.1.now ≡ left))
