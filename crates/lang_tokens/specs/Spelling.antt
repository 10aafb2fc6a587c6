-- How a program's text is cut into tokens, blanks and comments.
use Rattle.std.specs.Prelude.{◌≡◌, ℕ, ◌+◌, ◌<◌, ◌≤◌, Bool, true, false, ◌||◌, List, [], ◌∷◌, ◌++◌}
use Rattle.std.specs.Prelude.{length, take, drop, All, Contains, slice_index_or, ◌==◌, codes}
use Rattle.std.specs.List.{position}
use Rattle.std.specs.Option.{option_map_or}
use Rattle.std.specs.Str.{bytes_eq}
use Rattle.lang_base.specs.Identifiers.{KEYWORDS}
use Rattle.lang_base.specs.Limits.{WORD_BYTES}
pub use Rattle.lang_base.specs.Lines.{is_in_line}
pub use Rattle.lang_base.specs.Identifiers.{is_letter, is_digit, is_word_byte, IsIdentifier}
use Rattle.lang_tokens.specs.declared.token.TokenKind.{TokenKind}
use Rattle.lang_tokens.specs.declared.token.TokenKind.TheVariants as kinds
use Rattle.lang_tokens.specs.declared.token.Token.{Token}
use Rattle.lang_tokens.specs.Shapes.{Shape}
use Rattle.lang_tokens.specs.Shapes as shapes

-- ---- bytes

-- space, tab, line feed, carriage return
abbrev pub is_blank : ℕ → Bool
is_blank b = b == 32 || b == 9 || b == 10 || b == 13

-- ---- keywords and signs

-- the kinds of the keywords, in the order of `KEYWORDS`: monitor const int bool true, false method
-- waituntil if else,
-- return client repeat try local
abbrev pub KEYWORD_KINDS : List TokenKind
KEYWORD_KINDS =
    kinds.KeyMonitor ∷ kinds.KeyConst ∷ kinds.KeyInt ∷ kinds.KeyBool ∷ kinds.KeyTrue
    ∷ kinds.KeyFalse ∷ kinds.KeyMethod ∷ kinds.KeyWaituntil ∷ kinds.KeyIf ∷ kinds.KeyElse
    ∷ kinds.KeyReturn ∷ kinds.KeyClient ∷ kinds.KeyRepeat ∷ kinds.KeyTry ∷ kinds.KeyLocal ∷ []

-- the signs with their kinds
abbrev pub SIGNS : List (List ℕ × TokenKind)
SIGNS =
    (codes "==", kinds.Equal) ∷ (codes "!=", kinds.Differs) ∷ (codes "<=", kinds.AtMost)
    ∷ (codes ">=", kinds.AtLeast) ∷ (codes "&&", kinds.And) ∷ (codes "||", kinds.Or)
    ∷ (codes "{", kinds.OpenBrace) ∷ (codes "}", kinds.CloseBrace)
    ∷ (codes "(", kinds.OpenParen) ∷ (codes ")", kinds.CloseParen)
    ∷ (codes ";", kinds.Semicolon) ∷ (codes ",", kinds.Comma) ∷ (codes "=", kinds.Assign)
    ∷ (codes "<", kinds.Less) ∷ (codes ">", kinds.More) ∷ (codes "!", kinds.Not)
    ∷ (codes "+", kinds.Plus) ∷ (codes "-", kinds.Minus) ∷ (codes "*", kinds.Star) ∷ []

-- the kind of a word: that of the keyword which it is, or else of an identifier
abbrev pub kind_of_word : List ℕ → TokenKind
kind_of_word text =
    option_map_or (λ place. slice_index_or KEYWORD_KINDS place kinds.Ident)
    (position (bytes_eq text) KEYWORDS) kinds.Ident

-- ---- pieces

-- The text is a piece of this shape.
abbrev pub IsShape : Shape → List ℕ → Type 0
IsShape shapes.Blank text = (b : ℕ) × (is_blank b ≡ true) × (text ≡ b ∷ [])
IsShape shapes.Comment text =
    (line : List ℕ) × All (λ b. is_in_line b ≡ true) line × (text ≡ 47 ∷ 47 ∷ line)
IsShape shapes.Word text =
    (first : ℕ) × (more : List ℕ) × (is_letter first ≡ true) × All (λ b. is_word_byte b ≡ true) more
    × (text ≡ first ∷ more)
IsShape shapes.Number text =
    (first : ℕ) × (more : List ℕ) × (is_digit first ≡ true) × All (λ b. is_digit b ≡ true) more
    × (text ≡ first ∷ more)
IsShape (shapes.Sign kind) text = Contains SIGNS (text, kind)

-- words and numbers
abbrev pub is_run : Shape → Bool
is_run shapes.Word = true
is_run shapes.Number = true
is_run shape = false

-- The text stands at the front of the bytes, before the rest, and is the piece that is taken there:
-- the longest one. An identifier or a number has at most 32 bytes.
pub record Starts (bytes : List ℕ) (shape : Shape) (text rest : List ℕ) : Type 0 where
  pub front : bytes ≡ text ++ rest
  pub spells : IsShape shape text
  pub longest : (other : Shape) (longer after : List ℕ) → bytes ≡ longer ++ after
      → IsShape other longer → length longer ≤ length text
  pub fits : is_run shape ≡ true → length text ≤ WORD_BYTES

pub record Piece : Type 0 where
  pub shape : Shape
  pub text : List ℕ

-- these pieces, one after the other, and then the rest
abbrev pub AreCut : List ℕ → List Piece → List ℕ → Type 0
AreCut bytes [] rest = bytes ≡ rest
AreCut bytes (p ∷ ps) rest =
    (after : List ℕ) × Starts bytes p.shape p.text after × AreCut after ps rest

-- ---- tokens

-- what a piece at an offset gives
abbrev pub token : Shape → List ℕ → ℕ → List Token
token shapes.Word text at = record { kind = kind_of_word text; at = at; len = length text } ∷ []
token shapes.Number text at = record { kind = kinds.Number; at = at; len = length text } ∷ []
token (shapes.Sign kind) text at = record { kind = kind; at = at; len = length text } ∷ []
token shape text at = []

abbrev pub tokens_from : ℕ → List Piece → List Token
tokens_from at [] = []
tokens_from at (p ∷ ps) = token p.shape p.text at ++ tokens_from (at + length p.text) ps

-- the bytes are cut into pieces, and these are the tokens among them
abbrev pub Spells : List ℕ → List Token → Type 0
Spells bytes ts = (ps : List Piece) × AreCut bytes ps [] × (ts ≡ tokens_from 0 ps)

-- No piece starts at the offset, which comes after whole pieces.
pub record StartsNoToken (bytes : List ℕ) (at : ℕ) : Type 0 where
  pub pieces : List Piece
  pub rest : List ℕ
  pub before : AreCut bytes pieces rest
  pub more : 0 < length rest
  pub place : at + length rest ≡ length bytes
  pub none : (shape : Shape) (text after : List ℕ) → Starts rest shape text after → ⊥

-- ---- what follows of tokens

abbrev pub text_of : List ℕ → Token → List ℕ
text_of bytes t = take t.len (drop t.at bytes)

-- 1 to 32 decimal digits
pub record IsDecimal (text : List ℕ) : Type 0 where
  pub some : 0 < length text
  pub digits : All (λ b. is_digit b ≡ true) text
  pub short : length text ≤ WORD_BYTES

pub record IsToken (bytes : List ℕ) (t : Token) : Type 0 where
  pub within : t.at + t.len ≤ length bytes
  pub numeral : t.kind ≡ kinds.Number → IsDecimal (text_of bytes t)
  pub identifier : t.kind ≡ kinds.Ident → IsIdentifier (text_of bytes t)
