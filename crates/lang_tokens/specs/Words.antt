-- What tokens say: names, numbers, keywords and signs, each with its offset.
use Rattle.std.specs.Prelude.{ℕ, ◌+◌, ◌*◌, ◌-◌, List, map, fold}
use Rattle.lang_tokens.specs.declared.token.TokenKind.{TokenKind}
use Rattle.lang_tokens.specs.declared.token.TokenKind.TheVariants as kinds
use Rattle.lang_tokens.specs.declared.token.Token.{Token}
use Rattle.lang_tokens.specs.Spelling.{text_of}

-- the number that decimal digits stand for
abbrev pub decimal_value : List ℕ → ℕ
decimal_value digits = fold (λ value digit. value * 10 + (digit - 48)) 0 digits

-- a token with what it says: a name, a number, or a keyword or sign; the last number is the offset
-- (`word_of` makes no mark of a name or number)
pub data Word : Type 0 where
  ident : List ℕ → ℕ → Word
  numeral : ℕ → ℕ → Word
  mark : TokenKind → ℕ → Word

-- what a token of this kind, with this text, at this offset, says
abbrev pub word_of : TokenKind → List ℕ → ℕ → Word
word_of kinds.Ident text at = ident text at
word_of kinds.Number text at = numeral (decimal_value text) at
word_of kind text at = mark kind at

abbrev pub word : List ℕ → Token → Word
word bytes token = word_of token.kind (text_of bytes token) token.at

abbrev pub words : List ℕ → List Token → List Word
words bytes = map (word bytes)
