-- Identifiers are the words that are no keyword, as pieces say it.
use Rattle.std.proofs.Common.{◌≡◌, ℕ, ◌≤◌, Bool, true, false, List, [], ◌∷◌, length, refl, sym, subst}
use Rattle.std.specs.Prelude.{◌&&◌}
use Rattle.std.specs.List.{All, list_all}
use Rattle.std.proofs.lemmas.List.Elements.{All-cons, All-nil, All-head, All-tail}
use Rattle.lang_base.specs.Identifiers.{IsIdentifier, is_letter, is_spelled, is_word_byte}
use Rattle.lang_tokens.specs.declared.token.TokenKind.TheVariants as kinds
use Rattle.lang_tokens.specs.Shapes as shapes
use Rattle.lang_tokens.specs.Spelling.{IsShape, kind_of_word}
use Rattle.lang_tokens.proofs.Keywords.{kind_of_name, named_by_kind}

-- ---- letters and words

both : (b c : Bool) → (b && c) ≡ true → (b ≡ true) × (c ≡ true)
both true c e = (refl, e)
both false c e = absurd (cc)

words_spelled : (more : List ℕ) → All (λ b. is_word_byte b ≡ true) more → list_all is_word_byte more ≡ true
words_spelled [] each = refl
words_spelled (b ∷ more) each =
    rw (All-head (λ (b : ℕ). is_word_byte b ≡ true) b more each) (words_spelled more (All-tail (λ (b : ℕ). is_word_byte b ≡ true) b more each))

each_word : (more : List ℕ) → list_all is_word_byte more ≡ true → All (λ b. is_word_byte b ≡ true) more
each_word [] spelled = All-nil (λ (b : ℕ). is_word_byte b ≡ true)
each_word (b ∷ more) spelled =
    let parts = both (is_word_byte b) (list_all is_word_byte more) spelled in
    All-cons (λ (b : ℕ). is_word_byte b ≡ true) b more parts.0 (each_word more parts.1)

spelled_word : (text : List ℕ) → IsShape shapes.Word text → is_spelled text ≡ true
spelled_word text (first, more, letter, each, is) =
    subst (λ (t : List ℕ). is_spelled t ≡ true) (sym is) (rw letter (words_spelled more each))

word_spelled : (text : List ℕ) → is_spelled text ≡ true → IsShape shapes.Word text
word_spelled [] spelled = absurd (cc)
word_spelled (first ∷ more) spelled =
    let parts = both (is_letter first) (list_all is_word_byte more) spelled in
    (first, more, parts.0, each_word more parts.1, refl)

-- ---- identifiers

pub identifier_of_word : (text : List ℕ) → IsShape shapes.Word text → length text ≤ 32 → kind_of_word text ≡ kinds.Ident → IsIdentifier text
identifier_of_word text word short kind = record { spelled = spelled_word text word; short = short; no_keyword = named_by_kind text kind }

-- what an identifier is as a piece
pub record IsNamePiece (text : List ℕ) : Type 0 where
  pub spelled : IsShape shapes.Word text
  pub short : length text ≤ 32
  pub no_keyword : kind_of_word text ≡ kinds.Ident

pub name_piece : (text : List ℕ) → IsIdentifier text → IsNamePiece text
name_piece text is = record { spelled = word_spelled text is.spelled; short = is.short; no_keyword = kind_of_name text is.no_keyword }
