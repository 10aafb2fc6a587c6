-- What the loop over the pieces keeps.
use Rattle.std.proofs.Common.{◌≡◌, ℕ, ◌+◌, ◌<◌, ◌≤◌, List, [], ◌∷◌, ◌++◌, length, take, drop, Some, None, refl, sym, ap, ◌∙◌, append_assoc, arith}
use Rattle.std.proofs.lemmas.List.{append-nil, length-append, length-drop, length-take}
use Rattle.lang_tokens.specs.declared.token.Token.{Token}
use Rattle.lang_tokens.specs.declared.piece.Shape.{Shape}
use Rattle.lang_tokens.specs.Shapes.{Shape as Meant}
use Rattle.lang_tokens.specs.Shapes as shapes
use Rattle.lang_tokens.specs.Spelling.{IsShape, Starts, Piece, AreCut, Spells, StartsNoToken, token, tokens_from}
use Rattle.lang_tokens.specs.inner.Pieces.{longest_at, limited, meant}
use Rattle.lang_tokens.proofs.Signs.{sign_begins}
use Rattle.lang_tokens.proofs.Pieces.{starts_from, piece_from, AreCut-push, one_cut_at}

-- the pieces before the rest, and their tokens
pub record Going (bytes : List ℕ) (out : List Token) (at : ℕ) (rest : List ℕ) : Type 0 where
  pub pieces : List Piece
  pub cut : AreCut bytes pieces rest
  pub are : out ≡ tokens_from 0 pieces
  pub place : at + length rest ≡ length bytes
  pub tokens_at : (p : Piece) → tokens_from 0 (pieces ++ p ∷ []) ≡ tokens_from 0 pieces ++ token p.shape p.text at

pub begin_going : (bytes : List ℕ) → Going bytes [] 0 bytes
begin_going bytes = record { pieces = []; cut = refl; are = refl; place = omega arith; tokens_at = λ p. append-nil (token p.shape p.text 0) }

-- where the tokens of a later piece stand
later : (start at : ℕ) (ps : List Piece) (p q : Piece) → at ≡ start → tokens_from start (p ∷ []) ≡ token p.shape p.text at
later start at ps p q e = append-nil _ ∙ ap (token p.shape p.text) (sym e)

text_len : List Piece → ℕ
text_len [] = 0
text_len (p ∷ ps) = length p.text + text_len ps

tokens_push : (start : ℕ) (ps : List Piece) (p : Piece) → tokens_from start (ps ++ p ∷ []) ≡ tokens_from start ps ++ token p.shape p.text (start + text_len ps)
unfolding text_len
tokens_push start [] p = append-nil (token p.shape p.text start) ∙ ap (token p.shape p.text) (omega arith)
tokens_push start (q ∷ qs) p =
    let others = tokens_push (start + length q.text) qs p in
    let place : start + length q.text + text_len qs ≡ start + (length q.text + text_len qs) = omega arith in
    ap (λ (t : List Token). token q.shape q.text start ++ t) (others ∙ ap (λ (n : ℕ). tokens_from (start + length q.text) qs ++ token p.shape p.text n) place) ∙ sym (append_assoc (token q.shape q.text start) (tokens_from (start + length q.text) qs) (token p.shape p.text (start + (length q.text + text_len qs))))

cut_len : (bytes : List ℕ) (ps : List Piece) (rest : List ℕ) → AreCut bytes ps rest → text_len ps + length rest ≡ length bytes
unfolding text_len
cut_len bytes [] rest cut = omega (arith, ap length cut)
cut_len bytes (p ∷ ps) rest cut = omega (arith, cut_len cut.0 ps rest cut.2, ap length cut.1.front, length-append p.text cut.0)

pub goes_on : (bytes : List ℕ) (out : List Token) (at : ℕ) (rest : List ℕ) (shape : Shape) (n : ℕ) → limited (longest_at rest) ≡ Some (shape, n) → Going bytes out at rest
    → Going bytes (out ++ token (meant shape) (take n rest) at) (at + n) (drop n rest)
goes_on bytes out at rest shape n e going =
    let s = starts_from rest shape n e in
    let p : Piece = record { shape = meant shape; text = take n rest } in
    let cut = AreCut-push bytes going.pieces p rest (drop n rest) going.cut s.0 in
    let here : text_len going.pieces ≡ at = omega (arith, cut_len bytes going.pieces rest going.cut, going.place) in
    let pushed : tokens_from 0 (going.pieces ++ p ∷ []) ≡ tokens_from 0 going.pieces ++ token (meant shape) (take n rest) at = tokens_push 0 going.pieces p ∙ ap (λ (k : ℕ). tokens_from 0 going.pieces ++ token (meant shape) (take n rest) k) (omega arith) in
    let next : text_len (going.pieces ++ p ∷ []) ≡ at + n = omega (arith, cut_len bytes (going.pieces ++ p ∷ []) (drop n rest) cut, length-drop n rest, s.1, going.place) in
    record {
      pieces = going.pieces ++ p ∷ [];
      cut = cut;
      are = ap (λ (t : List Token). t ++ token (meant shape) (take n rest) at) going.are ∙ sym pushed;
      place = omega (arith, length-drop n rest, s.1, going.place);
      tokens_at = λ q. tokens_push 0 (going.pieces ++ p ∷ []) q ∙ ap (λ (k : ℕ). tokens_from 0 (going.pieces ++ p ∷ []) ++ token q.shape q.text k) (omega (arith, next));
    }

spells_some : (shape : Meant) (text : List ℕ) → IsShape shape text → 0 < length text
spells_some shapes.Blank text (b, c, is) = omega (arith, ap length is)
spells_some shapes.Comment text (line, all, is) = omega (arith, ap length is)
spells_some shapes.Word text (first, more, c, all, is) = omega (arith, ap length is)
spells_some shapes.Number text (first, more, c, all, is) = omega (arith, ap length is)
spells_some (shapes.Sign kind) text has = let begins = sign_begins text kind has in omega (arith, ap length begins.is)

pub piece_some : (rest : List ℕ) (shape : Shape) (n : ℕ) → limited (longest_at rest) ≡ Some (shape, n) → 0 < n
piece_some rest shape n e =
    let s = starts_from rest shape n e in
    omega (arith, spells_some (meant shape) (take n rest) s.0.spells, length-take n rest, s.1)

pub piece_within : (rest : List ℕ) (shape : Shape) (n : ℕ) → limited (longest_at rest) ≡ Some (shape, n) → n ≤ length rest
piece_within rest shape n e = (starts_from rest shape n e).1

none_starts : (rest : List ℕ) → limited (longest_at rest) ≡ None → (shape : Meant) (text after : List ℕ) → Starts rest shape text after → ⊥
none_starts rest e shape text after starts = let computed = piece_from rest shape text after starts in let both : None ≡ Some (computed.found, length text) = sym e ∙ computed.is in absurd cc

pub is_stuck : (bytes : List ℕ) (out : List Token) (at : ℕ) (rest : List ℕ) → 0 < length rest → limited (longest_at rest) ≡ None → Going bytes out at rest → StartsNoToken bytes at
is_stuck bytes out at rest more e going = record { pieces = going.pieces; rest = rest; before = going.cut; more = more; place = going.place; none = none_starts rest e }

pub is_done : (bytes : List ℕ) (out : List Token) (at : ℕ) (rest : List ℕ) → length rest ≡ 0 → Going bytes out at rest → Spells bytes out
is_done bytes out at [] len going = (going.pieces, going.cut, going.are)
is_done bytes out at (b ∷ rest) len going = absurd (omega arith)

-- ---- the laws of the definitions

none_of_nothing : (shape : Meant) (text after : List ℕ) → Starts [] shape text after → ⊥
unfolding longest_at
none_of_nothing shape text after starts = none_starts [] refl shape text after starts

pub one_reading : (bytes : List ℕ) (a b : List Token) → Spells bytes a → Spells bytes b → a ≡ b
one_reading bytes a b p q = p.2 ∙ ap (tokens_from 0) (one_cut_at bytes p.0 q.0 [] p.1 q.1 none_of_nothing).0 ∙ sym q.2

pub stuck_is_none : (bytes : List ℕ) (at : ℕ) (ts : List Token) → StartsNoToken bytes at → Spells bytes ts → ⊥
stuck_is_none bytes at ts stuck p = let e = (one_cut_at bytes p.0 stuck.pieces stuck.rest p.1 stuck.before stuck.none).1 in let more = stuck.more in absurd (omega (arith, ap length e))
