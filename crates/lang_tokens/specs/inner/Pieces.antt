-- The piece at the front of the bytes, computed. That it is the one that starts there is shown in
-- proofs/Pieces.antt.
use Rattle.std.specs.Prelude.{ℕ, ◌+◌, ◌&&◌, Bool, true, false, List, [], ◌∷◌, Option, Some, None}
use Rattle.std.specs.Prelude.{length, find, nat_eq, nat_lt, option_map, if◌then◌else◌}
use Rattle.std.specs.List.{prefix_len, starts_with}
use Rattle.lang_base.specs.Limits.{WORD_BYTES}
use Rattle.lang_tokens.specs.declared.token.TokenKind.{TokenKind}
use Rattle.lang_tokens.specs.declared.piece.Class.{Class}
use Rattle.lang_tokens.specs.declared.piece.Class.TheVariants as classes
use Rattle.lang_tokens.specs.declared.piece.Shape.{Shape}
use Rattle.lang_tokens.specs.declared.piece.Shape.TheVariants as coded
use Rattle.lang_tokens.specs.Shapes.{Shape as Meant}
use Rattle.lang_tokens.specs.Shapes as shapes
use Rattle.lang_tokens.specs.Spelling.{SIGNS, is_letter, is_word_byte, is_digit, is_blank}
use Rattle.lang_tokens.specs.Spelling.{is_in_line}

-- a shape of the code as one of the definitions
abbrev pub meant : Shape → Meant
meant coded.Blank = shapes.Blank
meant coded.Comment = shapes.Comment
meant coded.Word = shapes.Word
meant coded.Number = shapes.Number
meant (coded.Sign kind) = shapes.Sign kind

abbrev pub is_run : Shape → Bool
is_run coded.Word = true
is_run coded.Number = true
is_run shape = false

abbrev pub class_of : ℕ → Class
class_of b =
    if is_letter b then classes.Letter
    else (if is_digit b then classes.Digit
    else (if is_blank b then classes.Blank else classes.Other))

-- the first sign of the table that stands at the front, and its length
abbrev pub sign_at : List ℕ → Option (TokenKind × ℕ)
sign_at bytes =
    option_map (λ row. (row.1, length row.0)) (find (λ row. starts_with nat_eq bytes row.0) SIGNS)

-- a comment or a sign
unfoldable pub other_at : List ℕ → Option (Shape × ℕ)
other_at bytes =
    if starts_with nat_eq bytes (47 ∷ 47 ∷ [])
    then Some (coded.Comment, prefix_len is_in_line bytes)
    else option_map (λ sign. (coded.Sign sign.0, sign.1)) (sign_at bytes)

abbrev pub by_class : Class → ℕ → List ℕ → Option (Shape × ℕ)
by_class classes.Letter a rest = Some (coded.Word, 1 + prefix_len is_word_byte rest)
by_class classes.Digit a rest = Some (coded.Number, 1 + prefix_len is_digit rest)
by_class classes.Blank a rest = Some (coded.Blank, 1)
by_class classes.Other a rest = other_at (a ∷ rest)

-- the longest piece, of any length
unfoldable pub longest_at : List ℕ → Option (Shape × ℕ)
longest_at [] = None
longest_at (a ∷ rest) = by_class (class_of a) a rest

abbrev pub limited : Option (Shape × ℕ) → Option (Shape × ℕ)
limited None = None
limited (Some p) = if is_run p.0 && nat_lt WORD_BYTES p.1 then None else Some p
