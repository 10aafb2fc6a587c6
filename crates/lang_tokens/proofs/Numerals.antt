-- Each token stands within the text, a number's text is digits, and a name's is an identifier.
use Rattle.std.proofs.Common.{◌≡◌, ℕ, ◌+◌, ◌<◌, ◌≤◌, true, List, [], ◌∷◌, ◌++◌, length, take, drop, All, refl, sym, ap, subst, ◌∙◌, append_assoc, arith}
use Rattle.std.proofs.lemmas.List.{length-append, take_at, drop_at}
use Rattle.std.proofs.lemmas.List.Elements.{All-cons, All-nil, All-append}
use Rattle.lang_tokens.specs.declared.token.TokenKind.TheVariants as kinds
use Rattle.lang_tokens.specs.declared.token.Token.{Token}
use Rattle.lang_tokens.specs.Shapes.{Shape}
use Rattle.lang_tokens.specs.Shapes as shapes
use Rattle.lang_tokens.specs.Spelling.{is_digit, IsShape, Starts, Piece, AreCut, Spells, IsToken, IsDecimal, IsIdentifier, text_of, token, tokens_from, kind_of_word}
use Rattle.lang_tokens.proofs.Identifiers.{identifier_of_word}
use Rattle.lang_tokens.proofs.Keywords.{no_number, sign_fixed}

pub text_at : (whole before text after : List ℕ) (t : Token) → whole ≡ before ++ (text ++ after) → t.at ≡ length before → t.len ≡ length text → (text_of whole t ≡ text) × (t.at + t.len ≤ length whole)
text_at whole before text after t parts at len =
    let dropped : drop t.at whole ≡ text ++ after = ap (drop t.at) parts ∙ drop_at before (text ++ after) t.at (sym at) in
    (ap (take t.len) dropped ∙ take_at text after t.len (sym len), omega (arith, ap length parts, length-append before (text ++ after), length-append text after))

piece_tokens : (whole before : List ℕ) (shape : Shape) (text bytes after : List ℕ) (at : ℕ) → whole ≡ before ++ (text ++ after) → at ≡ length before → Starts bytes shape text after → All (IsToken whole) (token shape text at)
piece_tokens whole before shapes.Blank text bytes after at parts is s = All-nil (IsToken whole)
piece_tokens whole before shapes.Comment text bytes after at parts is s = All-nil (IsToken whole)
piece_tokens whole before shapes.Word text bytes after at parts is s =
    let t : Token = record { kind = kind_of_word text; at = at; len = length text } in
    let place = text_at whole before text after t parts is refl in
    All-cons (IsToken whole) t [] (record {
      within = place.1;
      numeral = λ e. absurd (no_number text e);
      identifier = λ e. subst IsIdentifier (sym place.0) (identifier_of_word text s.spells (s.fits refl) e);
    }) (All-nil (IsToken whole))
piece_tokens whole before shapes.Number text bytes after at parts is s =
    let t : Token = record { kind = kinds.Number; at = at; len = length text } in
    let place = text_at whole before text after t parts is refl in
    All-cons (IsToken whole) t [] (record {
      within = place.1;
      numeral = λ e. subst IsDecimal (sym place.0) (record { some = some text s.spells; digits = digits text s.spells; short = s.fits refl });
      identifier = λ e. absurd cc;
    }) (All-nil (IsToken whole))
  where
    some : (text : List ℕ) → IsShape shapes.Number text → 0 < length text
    some text (first, more, c, all, e) = omega (arith, ap length e)

    digits : (text : List ℕ) → IsShape shapes.Number text → All (λ b. is_digit b ≡ true) text
    digits text (first, more, c, all, e) = subst (All (λ b. is_digit b ≡ true)) (sym e) (All-cons (λ b. is_digit b ≡ true) first more c all)
piece_tokens whole before (shapes.Sign kind) text bytes after at parts is s =
    let t : Token = record { kind = kind; at = at; len = length text } in
    let fixed = sign_fixed text kind s.spells in
    All-cons (IsToken whole) t [] (record {
      within = (text_at whole before text after t parts is refl).1;
      numeral = λ e. absurd (fixed.0 e);
      identifier = λ e. absurd (fixed.1 e);
    }) (All-nil (IsToken whole))

tokens_at : (whole before bytes : List ℕ) (at : ℕ) (ps : List Piece) → whole ≡ before ++ bytes → at ≡ length before → AreCut bytes ps [] → All (IsToken whole) (tokens_from at ps)
tokens_at whole before bytes at [] parts is cut = All-nil (IsToken whole)
tokens_at whole before bytes at (p ∷ ps) parts is cut =
    let after = cut.0 in
    let here : whole ≡ before ++ (p.text ++ after) = parts ∙ ap (λ (t : List ℕ). before ++ t) cut.1.front in
    let next : whole ≡ (before ++ p.text) ++ after = here ∙ sym (append_assoc before p.text after) in
    All-append (IsToken whole) (token p.shape p.text at) (tokens_from (at + length p.text) ps)
    (piece_tokens whole before p.shape p.text bytes after at here is cut.1)
    (tokens_at whole (before ++ p.text) after (at + length p.text) ps next (omega (arith, length-append before p.text)) cut.2)

pub tokens_are : (bytes : List ℕ) (ts : List Token) → Spells bytes ts → All (IsToken bytes) ts
tokens_are bytes ts (ps, cut, is) = subst (All (IsToken bytes)) (sym is) (tokens_at bytes [] bytes 0 ps refl refl cut)
