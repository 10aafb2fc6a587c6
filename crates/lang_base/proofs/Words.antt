-- Names: what their bytes are.
use Rattle.std.proofs.Common.{◌≡◌, ℕ, Bool, true, false, List, [], ◌∷◌, ◌++◌, refl}
use Rattle.std.specs.List.{list_all}
use Rattle.std.proofs.lemmas.Bool.{and_parts, and_from, or_left, false≢true}
use Rattle.lang_base.specs.Identifiers.{is_letter, is_digit, is_word_byte, is_spelled, IsIdentifier}

letter_is_word : (byte : ℕ) → is_letter byte ≡ true → is_word_byte byte ≡ true
letter_is_word byte is = or_left (is_letter byte) (is_digit byte) is

spelled_words : (name : List ℕ) → is_spelled name ≡ true → list_all is_word_byte name ≡ true
spelled_words [] is = refl
spelled_words (first ∷ more) is =
    let parts = and_parts (is_letter first) (list_all is_word_byte more) is in
    and_from (is_word_byte first) (list_all is_word_byte more) (letter_is_word first parts.0) parts.1

pub name_words : (name : List ℕ) → IsIdentifier name → list_all is_word_byte name ≡ true
name_words name is = spelled_words name is.spelled

abbrev pub begins_with_letter : List ℕ → Bool
begins_with_letter [] = false
begins_with_letter (first ∷ more) = is_letter first

spelled_begins : (name rest : List ℕ) → is_spelled name ≡ true
    → begins_with_letter (name ++ rest) ≡ true
spelled_begins [] rest is = absurd (false≢true is)
spelled_begins (first ∷ more) rest is = (and_parts (is_letter first) (list_all is_word_byte more) is).0

pub name_begins : (name rest : List ℕ) → IsIdentifier name
    → begins_with_letter (name ++ rest) ≡ true
name_begins name rest is = spelled_begins name rest is.spelled
