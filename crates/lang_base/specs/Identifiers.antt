-- Identifiers: the names that a file may give.
use Rattle.std.specs.Prelude.{◌≡◌, ℕ, ◌≤◌, Bool, true, false, ◌&&◌, ◌||◌, List, [], ◌∷◌, length}
use Rattle.std.specs.Prelude.{nat_le, ◌==◌, codes}
use Rattle.std.specs.List.{list_all, list_any}
use Rattle.std.specs.Str.{bytes_eq}
use Rattle.lang_base.specs.Limits.{WORD_BYTES}

-- a letter, or an underscore
abbrev pub is_letter : ℕ → Bool
is_letter b = (nat_le 97 b && nat_le b 122) || (nat_le 65 b && nat_le b 90) || b == 95

-- a decimal digit
abbrev pub is_digit : ℕ → Bool
is_digit b = nat_le 48 b && nat_le b 57

-- a byte of an identifier after its first
abbrev pub is_word_byte : ℕ → Bool
is_word_byte b = is_letter b || is_digit b

-- a letter or an underscore, and then such and digits
abbrev pub is_spelled : List ℕ → Bool
is_spelled [] = false
is_spelled (first ∷ more) = is_letter first && list_all is_word_byte more

-- the words of the language, which name nothing
abbrev pub KEYWORDS : List (List ℕ)
KEYWORDS =
    codes "monitor" ∷ codes "const" ∷ codes "int" ∷ codes "bool" ∷ codes "true" ∷ codes "false" ∷
    codes "method" ∷ codes "waituntil"
    ∷ codes "if" ∷ codes "else" ∷ codes "return" ∷ codes "client" ∷ codes "repeat" ∷ codes "try" ∷
    codes "local" ∷ []

abbrev pub is_keyword : List ℕ → Bool
is_keyword text = list_any (bytes_eq text) KEYWORDS

-- letters, underscores and digits, of which the first is no digit, in 1 to 32 bytes that are no
-- keyword
pub record IsIdentifier (text : List ℕ) : Type 0 where
  pub spelled : is_spelled text ≡ true
  pub short : length text ≤ WORD_BYTES
  pub no_keyword : is_keyword text ≡ false
