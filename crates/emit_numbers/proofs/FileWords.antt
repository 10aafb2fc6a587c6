-- The words of a file are no more than its bytes.
use Rattle.std.proofs.Common.{ℕ, ◌+◌, ◌≤◌, List, [], ◌∷◌, length, sym, ap, subst, ◌∙◌, arith, length-append}
use Rattle.std.proofs.lemmas.List.{length-map}
use Rattle.lang_tokens.specs.declared.token.Token.{Token}
use Rattle.lang_tokens.specs.Shapes.{Shape}
use Rattle.lang_tokens.specs.Shapes as shapes
use Rattle.lang_tokens.specs.Words.{word, words}
use Rattle.lang_tokens.specs.Spelling.{IsShape, Piece, AreCut, token, tokens_from, Spells}
use Rattle.lang_tokens.proofs.Signs.{sign_begins}

text_long : (shape : Shape) (text : List ℕ) (at : ℕ) → IsShape shape text → length (token shape text at) ≤ length text
text_long shapes.Blank text at is = omega arith
text_long shapes.Comment text at is = omega arith
text_long shapes.Word text at is = subst (λ (t : List ℕ). 1 ≤ length t) (sym is.4) (omega arith)
text_long shapes.Number text at is = subst (λ (t : List ℕ). 1 ≤ length t) (sym is.4) (omega arith)
text_long (shapes.Sign kind) text at is = let begins = sign_begins text kind is in omega (arith, ap length begins.is)

tokens_few : (bytes : List ℕ) (at : ℕ) (pieces : List Piece) (rest : List ℕ) → AreCut bytes pieces rest → length (tokens_from at pieces) ≤ length bytes
tokens_few bytes at [] rest cut = omega arith
tokens_few bytes at (piece ∷ pieces) rest cut =
    let here = text_long piece.shape piece.text at cut.1.spells in
    let later = tokens_few cut.0 (at + length piece.text) pieces rest cut.2 in
    let whole = ap (λ (b : List ℕ). length b) cut.1.front ∙ length-append piece.text cut.0 in
    let all = length-append (token piece.shape piece.text at) (tokens_from (at + length piece.text) pieces) in
    omega arith

pub words_few : (bytes : List ℕ) (tokens : List Token) → Spells bytes tokens → length (words bytes tokens) ≤ length bytes
words_few bytes tokens spelled =
    let few = tokens_few bytes 0 spelled.0 [] spelled.1 in
    let same = ap (λ (t : List Token). length t) spelled.2 in
    let each = length-map tokens (word bytes) in
    omega arith
