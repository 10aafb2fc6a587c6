-- What a piece of a text is.
use Rattle.lang_tokens.specs.declared.token.TokenKind.{TokenKind}

-- a blank, a comment, a word (an identifier or a keyword), a number, or a sign of this kind
pub data Shape : Type 0 where
  Blank : Shape
  Comment : Shape
  Word : Shape
  Number : Shape
  Sign : TokenKind → Shape
