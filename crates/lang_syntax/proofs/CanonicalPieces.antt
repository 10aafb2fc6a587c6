-- Texts that are cut into pieces before whatever may follow them, and the words that the pieces
-- say.
use Rattle.std.proofs.Common.{◌≡◌, ℕ, ◌+◌, ◌*◌, ◌-◌, ◌/◌, ◌%◌, ◌^◌, ◌<◌, ◌≤◌, Bool, true, false, cond, eqb, ◌||◌, List, [], ◌∷◌, ◌++◌, length, take, map, All, Option, Some, refl, sym, ap, subst, ◌∙◌, append_assoc, arith}
use Rattle.std.specs.Prelude.{codes, if◌then◌else◌, decimal, option_map}
use Rattle.std.specs.List.{flat_map, prefix_len, list_all}
use Rattle.std.proofs.lemmas.Bool.{le-ltb, and_parts}
use Rattle.std.proofs.lemmas.List.{length-append, take_at, drop_at, map-append}
use Rattle.std.proofs.lemmas.List.Sums.{fold-append}
use Rattle.std.proofs.lemmas.List.Elements.{All-head, All-tail, All-cons, All-nil, All-append}
use Rattle.std.proofs.lemmas.Fmt.{decimal_by_steps_wide, length-decimal-le_wide}
use Rattle.lang_tokens.specs.declared.token.TokenKind.{TokenKind}
use Rattle.lang_tokens.specs.declared.token.TokenKind.TheVariants as kinds
use Rattle.lang_tokens.specs.declared.token.Token.{Token}
use Rattle.lang_tokens.specs.declared.piece.Class.TheVariants as classes
use Rattle.lang_tokens.specs.declared.piece.Shape.{Shape as Coded}
use Rattle.lang_tokens.specs.declared.piece.Shape.TheVariants as coded
use Rattle.lang_tokens.specs.Shapes.{Shape}
use Rattle.lang_tokens.specs.Shapes as shapes
use Rattle.lang_tokens.proofs.Identifiers.{name_piece}
use Rattle.lang_tokens.specs.Spelling.{is_word_byte, is_letter, is_digit, IsShape, IsIdentifier, Starts, Piece, AreCut, Spells, token, tokens_from, kind_of_word}
use Rattle.lang_tokens.specs.inner.Pieces.{class_of, longest_at, limited, meant, sign_at}
use Rattle.lang_tokens.specs.Words.{Word, ident, numeral, mark, word_of, word, words, decimal_value}
use Rattle.lang_syntax.proofs.CanonicalWords.{bare}
use Rattle.lang_tokens.proofs.Classes.{letter_class, digit_class}
use Rattle.lang_tokens.proofs.Pieces.{starts_from, looked_up}
use Rattle.lang_tokens.proofs.Numerals.{text_at}

-- ---- what pieces say

-- what a piece says, without its offset
abbrev pub said : Shape → List ℕ → List Word
said shapes.Word text = word_of (kind_of_word text) text 0 ∷ []
said shapes.Number text = numeral (decimal_value text) 0 ∷ []
said (shapes.Sign kind) text = word_of kind text 0 ∷ []
said shape text = []

abbrev pub piece_says : Piece → List Word
piece_says piece = said piece.shape piece.text

-- the bytes are cut into pieces that say these words
pub record Reads (bytes : List ℕ) (ws : List Word) : Type 0 where
  pub pieces : List Piece
  pub cut : AreCut bytes pieces []
  pub say : flat_map piece_says pieces ≡ ws

pub reads_nothing : Reads [] []
reads_nothing = record { pieces = []; cut = refl; say = refl }

pub reads_piece : (text rest : List ℕ) (shape : Coded) (more : List Word) → limited (longest_at (text ++ rest)) ≡ Some (shape, length text) → Reads rest more → Reads (text ++ rest) (said (meant shape) text ++ more)
reads_piece text rest shape more e r =
    let s = starts_from (text ++ rest) shape (length text) e in
    let cut_off : Starts (text ++ rest) (meant shape) (take (length text) (text ++ rest)) rest = subst (λ (l : List ℕ). Starts (text ++ rest) (meant shape) (take (length text) (text ++ rest)) l) (drop_at text rest (length text) refl) s.0 in
    let starts : Starts (text ++ rest) (meant shape) text rest = subst (λ (l : List ℕ). Starts (text ++ rest) (meant shape) l rest) (take_at text rest (length text) refl) cut_off in
    record {
      pieces = record { shape = meant shape; text = text } ∷ r.pieces;
      cut = (rest, starts, r.cut);
      say = ap (λ (l : List Word). said (meant shape) text ++ l) r.say;
    }

bare-word_of : (kind : TokenKind) (text : List ℕ) (at : ℕ) → bare (word_of kind text at) ≡ word_of kind text 0
bare-word_of kinds.Ident text at = refl
bare-word_of kinds.Number text at = refl
bare-word_of kind text at = refl

-- the token of a piece, at its place in the whole text, says what the piece says
token_says : (whole before : List ℕ) (shape : Shape) (text after : List ℕ) (at : ℕ) → whole ≡ before ++ (text ++ after) → at ≡ length before → map bare (words whole (token shape text at)) ≡ said shape text
token_says whole before shapes.Blank text after at parts is = refl
token_says whole before shapes.Comment text after at parts is = refl
token_says whole before shapes.Word text after at parts is =
    let t : Token = record { kind = kind_of_word text; at = at; len = length text } in
    ap (λ (x : List ℕ). bare (word_of (kind_of_word text) x at) ∷ []) (text_at whole before text after t parts is refl).0 ∙ ap (λ (w : Word). w ∷ []) (bare-word_of (kind_of_word text) text at)
token_says whole before shapes.Number text after at parts is =
    let t : Token = record { kind = kinds.Number; at = at; len = length text } in
    ap (λ (x : List ℕ). numeral (decimal_value x) 0 ∷ []) (text_at whole before text after t parts is refl).0
token_says whole before (shapes.Sign kind) text after at parts is =
    let t : Token = record { kind = kind; at = at; len = length text } in
    ap (λ (x : List ℕ). bare (word_of kind x at) ∷ []) (text_at whole before text after t parts is refl).0 ∙ ap (λ (w : Word). w ∷ []) (bare-word_of kind text at)

tokens_say : (whole before bytes : List ℕ) (at : ℕ) (ps : List Piece) → whole ≡ before ++ bytes → at ≡ length before → AreCut bytes ps [] → map bare (words whole (tokens_from at ps)) ≡ flat_map piece_says ps
tokens_say whole before bytes at [] parts is cut = refl
tokens_say whole before bytes at (p ∷ ps) parts is cut =
    let after = cut.0 in
    let here : whole ≡ before ++ (p.text ++ after) = parts ∙ ap (λ (t : List ℕ). before ++ t) cut.1.front in
    let next : whole ≡ (before ++ p.text) ++ after = here ∙ sym (append_assoc before p.text after) in
    let first = token_says whole before p.shape p.text after at here is in
    let others = tokens_say whole (before ++ p.text) after (at + length p.text) ps next (omega (arith, length-append before p.text)) cut.2 in
    ap (map bare) (map-append (word whole) (token p.shape p.text at) (tokens_from (at + length p.text) ps))
    ∙ map-append bare (words whole (token p.shape p.text at)) (words whole (tokens_from (at + length p.text) ps))
    ∙ ap (λ (l : List Word). l ++ map bare (words whole (tokens_from (at + length p.text) ps))) first
    ∙ ap (λ (l : List Word). said p.shape p.text ++ l) others

-- bytes that are cut so are spelled by tokens that say the same words
pub spells_words : (bytes : List ℕ) (ws : List Word) → Reads bytes ws → (tokens : List Token) × Spells bytes tokens × (map bare (words bytes tokens) ≡ ws)
spells_words bytes ws r = (tokens_from 0 r.pieces, (r.pieces, r.cut, refl), tokens_say bytes [] bytes 0 r.pieces refl refl r.cut ∙ r.say)

-- ---- texts before whatever may follow

-- no word or number goes on here
abbrev pub ends : List ℕ → Bool
ends [] = true
ends (b ∷ more) = if is_word_byte b then false else true

-- what follows says these words; where it is asked, a word or a number before it ends there
abbrev pub Ready : Bool → List ℕ → List Word → Type 0
Ready true bytes ws = (ends bytes ≡ true) × Reads bytes ws
Ready false bytes ws = Reads bytes ws

-- The text says these words before anything that is ready as it needs, and then is ready as it
-- gives.
pub record Says (needs gives : Bool) (text : List ℕ) (ws : List Word) : Type 0 where
  pub before : (rest : List ℕ) (more : List Word) → Ready needs rest more → Ready gives (text ++ rest) (ws ++ more)

regroup : (gives : Bool) (a b rest : List ℕ) (u v more : List Word) → Ready gives (a ++ (b ++ rest)) (u ++ (v ++ more)) → Ready gives ((a ++ b) ++ rest) ((u ++ v) ++ more)
regroup gives a b rest u v more r =
    subst (λ (t : List ℕ). Ready gives t ((u ++ v) ++ more)) (sym (append_assoc a b rest)) (subst (λ (w : List Word). Ready gives (a ++ (b ++ rest)) w) (sym (append_assoc u v more)) r)

pub says_nothing : (ready : Bool) → Says ready ready [] []
says_nothing ready = record { before = λ rest more r. r }

-- gives less
pub less : {needs : Bool} {a : List ℕ} {u : List Word} → Says needs true a u → Says needs false a u
less s = record { before = λ rest more r. (s.before rest more r).1 }

-- the one text and then the other, where the first needs nothing of what follows
infixl 20 ◌▷◌
pub ◌▷◌ : {needs middle gives : Bool} {a b : List ℕ} {u v : List Word} → Says false gives a u → Says needs middle b v → Says needs gives (a ++ b) (u ++ v)
◌▷◌ {needs} {middle} {gives} {a} {b} {u} {v} first second =
    let next = any middle second in
    record { before = λ rest more ready. regroup gives a b rest u v more (first.before (b ++ rest) (v ++ more) (next.before rest more ready)) }
  where
    any : (m : Bool) → Says needs m b v → Says needs false b v
    any true s = less s
    any false s = s

-- and where a word or a number that the first ends in has to end there
infixl 20 ◌▶◌
pub ◌▶◌ : {needs gives : Bool} {a b : List ℕ} {u v : List Word} → Says true gives a u → Says needs true b v → Says needs gives (a ++ b) (u ++ v)
◌▶◌ {needs} {gives} {a} {b} {u} {v} first second = record { before = λ rest more ready. regroup gives a b rest u v more (first.before (b ++ rest) (v ++ more) (second.before rest more ready)) }

-- needs more
pub asking : {gives : Bool} {a : List ℕ} {u : List Word} → Says false gives a u → Says true gives a u
asking s = record { before = λ rest more r. s.before rest more r.1 }

pub says_same : {needs gives : Bool} {a b : List ℕ} {u v : List Word} → a ≡ b → u ≡ v → Says needs gives a u → Says needs gives b v
says_same {needs} {gives} {a} {b} {u} {v} e f s = subst (λ (t : List ℕ). Says needs gives t v) e (subst (λ (w : List Word). Says needs gives a w) f s)

-- ---- blanks and signs

pub space : Says false true (32 ∷ []) []
unfolding longest_at
space = record { before = λ rest more r. (refl, reads_piece (32 ∷ []) rest coded.Blank more refl r) }

pub line_feed : Says false true (10 ∷ []) []
unfolding longest_at
line_feed = record { before = λ rest more r. (refl, reads_piece (10 ∷ []) rest coded.Blank more refl r) }

-- a sign that begins no longer one
lone_at : (a : ℕ) (kind : TokenKind) → class_of a ≡ classes.Other → eqb 47 a ≡ false → (rest : List ℕ) → sign_at (a ∷ rest) ≡ Some (kind, 1) → limited (longest_at (a ∷ rest)) ≡ Some (coded.Sign kind, 1)
lone_at a kind c no_line rest found =
    ap limited (looked_up a rest c no_line ∙ ap (λ (sign : Option (TokenKind × ℕ)). option_map (λ sign. (coded.Sign sign.0, sign.1)) sign) found)

pub lone : (a : ℕ) (kind : TokenKind) → class_of a ≡ classes.Other → eqb 47 a ≡ false → is_word_byte a ≡ false → ((rest : List ℕ) → sign_at (a ∷ rest) ≡ Some (kind, 1)) → Says false true (a ∷ []) (word_of kind (a ∷ []) 0 ∷ [])
lone a kind c no_line no_word found = record { before = λ rest more r. (rw no_word refl, reads_piece (a ∷ []) rest (coded.Sign kind) more (lone_at a kind c no_line rest (found rest)) r) }

-- a sign between blanks
pub between_blanks : (text : List ℕ) (kind : TokenKind) → ((rest : List ℕ) → limited (longest_at (text ++ (32 ∷ rest))) ≡ Some (coded.Sign kind, length text)) → Says false true (32 ∷ (text ++ (32 ∷ []))) (word_of kind text 0 ∷ [])
between_blanks text kind here =
    let sign : Says false false (text ++ (32 ∷ [])) (word_of kind text 0 ∷ []) = record {
      before = λ rest more r.
          let blank : Reads (32 ∷ rest) more = (space.before rest more r).1 in
          let whole : Reads (text ++ (32 ∷ rest)) (word_of kind text 0 ∷ more) = reads_piece text (32 ∷ rest) (coded.Sign kind) more (here rest) blank in
          subst (λ (t : List ℕ). Reads t (word_of kind text 0 ∷ more)) (sym (append_assoc text (32 ∷ []) rest)) whole;
    } in
    space ▷ sign

pub begin_brace : Says false true (codes "{") (mark kinds.OpenBrace 0 ∷ [])
begin_brace = lone 123 kinds.OpenBrace refl refl refl (λ rest. refl)

pub end_brace : Says false true (codes "}") (mark kinds.CloseBrace 0 ∷ [])
end_brace = lone 125 kinds.CloseBrace refl refl refl (λ rest. refl)

pub begin_paren : Says false true (codes "(") (mark kinds.OpenParen 0 ∷ [])
begin_paren = lone 40 kinds.OpenParen refl refl refl (λ rest. refl)

pub end_paren : Says false true (codes ")") (mark kinds.CloseParen 0 ∷ [])
end_paren = lone 41 kinds.CloseParen refl refl refl (λ rest. refl)

pub semicolon : Says false true (codes ";") (mark kinds.Semicolon 0 ∷ [])
semicolon = lone 59 kinds.Semicolon refl refl refl (λ rest. refl)

pub comma : Says false true (codes ",") (mark kinds.Comma 0 ∷ [])
comma = lone 44 kinds.Comma refl refl refl (λ rest. refl)

pub minus : Says false true (codes "-") (mark kinds.Minus 0 ∷ [])
minus = lone 45 kinds.Minus refl refl refl (λ rest. refl)

-- ---- words and numbers

prefix_all : (p : ℕ → Bool) (xs rest : List ℕ) → All (λ b. p b ≡ true) xs → prefix_len p rest ≡ 0 → prefix_len p (xs ++ rest) ≡ length xs
prefix_all p [] rest all none = none
prefix_all p (x ∷ xs) rest all none =
    let here = All-head (λ b. p b ≡ true) x xs all in
    let others = prefix_all p xs rest (All-tail (λ b. p b ≡ true) x xs all) none in
    rw here (omega (arith, others))

word_ends : (rest : List ℕ) → ends rest ≡ true → prefix_len is_word_byte rest ≡ 0
word_ends [] h = refl
word_ends (b ∷ rest) h = by_test (is_word_byte b) h
  where
    by_test : (t : Bool) → (if t then false else true) ≡ true → cond t (1 + prefix_len is_word_byte rest) 0 ≡ 0
    by_test true h = absurd cc
    by_test false h = refl

number_ends : (rest : List ℕ) → ends rest ≡ true → prefix_len is_digit rest ≡ 0
number_ends [] h = refl
number_ends (b ∷ rest) h = by_tests (is_letter b) (is_digit b) h
  where
    by_tests : (l d : Bool) → (if l || d then false else true) ≡ true → cond d (1 + prefix_len is_digit rest) 0 ≡ 0
    by_tests true d h = absurd cc
    by_tests false true h = absurd cc
    by_tests false false h = refl

word_at : (text rest : List ℕ) → IsShape shapes.Word text → length text ≤ 32 → ends rest ≡ true → limited (longest_at (text ++ rest)) ≡ Some (coded.Word, length text)
unfolding longest_at
word_at text rest (first, more, is_first, all, is) short h =
    let c = letter_class first is_first in
    let n : 1 + prefix_len is_word_byte (more ++ rest) ≡ length text = omega (arith, prefix_all is_word_byte more rest all (word_ends rest h), ap length is) in
    subst (λ (t : List ℕ). limited (longest_at (t ++ rest)) ≡ Some (coded.Word, length text)) (sym is) (rw (c, n, le-ltb 32 (length text) short) refl)

number_at : (text rest : List ℕ) → IsShape shapes.Number text → length text ≤ 32 → ends rest ≡ true → limited (longest_at (text ++ rest)) ≡ Some (coded.Number, length text)
unfolding longest_at
number_at text rest (first, more, is_first, all, is) short h =
    let c = digit_class first is_first in
    let n : 1 + prefix_len is_digit (more ++ rest) ≡ length text = omega (arith, prefix_all is_digit more rest all (number_ends rest h), ap length is) in
    subst (λ (t : List ℕ). limited (longest_at (t ++ rest)) ≡ Some (coded.Number, length text)) (sym is) (rw (c, n, le-ltb 32 (length text) short) refl)

pub one_word : (text : List ℕ) → IsShape shapes.Word text → length text ≤ 32 → Says true false text (word_of (kind_of_word text) text 0 ∷ [])
one_word text spelled short = record { before = λ rest more r. reads_piece text rest coded.Word more (word_at text rest spelled short r.0) r.1 }

pub name : (text : List ℕ) → IsIdentifier text → Says true false text (ident text 0 ∷ [])
name text is = let piece = name_piece text is in subst (λ (k : TokenKind). Says true false text (word_of k text 0 ∷ [])) piece.no_keyword (one_word text piece.spelled piece.short)

all_words : (xs : List ℕ) → list_all is_word_byte xs ≡ true → All (λ b. is_word_byte b ≡ true) xs
all_words [] h = All-nil (λ b. is_word_byte b ≡ true)
all_words (x ∷ xs) h = let parts = and_parts (is_word_byte x) (list_all is_word_byte xs) h in All-cons (λ b. is_word_byte b ≡ true) x xs parts.0 (all_words xs parts.1)

-- a word that is written out
pub keyword : (first : ℕ) (more : List ℕ) → is_letter first ≡ true → list_all is_word_byte more ≡ true → length more < 32 → Says true false (first ∷ more) (word_of (kind_of_word (first ∷ more)) (first ∷ more) 0 ∷ [])
keyword first more c all short = one_word (first ∷ more) (first, more, c, all_words more all, refl) (omega arith)

-- ---- numbers

digit_test : (d : ℕ) → d < 10 → is_digit (48 + d) ≡ true
digit_test d h = grind arith

-- what is asked of a number's digits
pub record Written (n : ℕ) (digits : List ℕ) : Type 0 where
  pub spelled : IsShape shapes.Number digits
  pub value : decimal_value digits ≡ n

one_digit : (n : ℕ) → n < 10 → Written n ((48 + n) ∷ [])
one_digit n h = record { spelled = (48 + n, [], digit_test n h, All-nil (λ b. is_digit b ≡ true), refl); value = omega arith }

pushed : (digits : List ℕ) (d : ℕ) → d < 10 → IsShape shapes.Number digits → IsShape shapes.Number (digits ++ ((48 + d) ∷ []))
pushed digits d h (first, more, c, all, is) =
    (first, more ++ ((48 + d) ∷ []), c, All-append (λ b. is_digit b ≡ true) more ((48 + d) ∷ []) all (All-cons (λ b. is_digit b ≡ true) (48 + d) [] (digit_test d h) (All-nil (λ b. is_digit b ≡ true))), ap (λ (l : List ℕ). l ++ ((48 + d) ∷ [])) is)

next_digit : (n : ℕ) (digits : List ℕ) → 10 ≤ n → Written (n / 10) digits → Written n (digits ++ ((48 + n % 10) ∷ []))
next_digit n digits h w = record {
  spelled = pushed digits (n % 10) (omega arith) w.spelled;
  value = fold-append (λ (value digit : ℕ). value * 10 + (digit - 48)) 0 digits ((48 + n % 10) ∷ []) ∙ last (decimal_value digits) w.value;
}
  where
    last : (front : ℕ) → front ≡ n / 10 → front * 10 + (48 + n % 10 - 48) ≡ n
    last front e = omega arith

wide : (n : ℕ) → n < 10 ^ 32 → n < 10 ^ 64
wide n h = omega arith

pub written : (n : ℕ) → n < 10 ^ 32 → Written n (decimal n)
written n h = decimal_by_steps_wide Written one_digit next_digit n (wide n h)

pub number : (n : ℕ) → n < 10 ^ 32 → Says true false (decimal n) (numeral n 0 ∷ [])
number n h =
    let w = written n h in
    let short : length (decimal n) ≤ 32 = length-decimal-le_wide 32 n (omega arith) h (wide n h) in
    let digits : Says true false (decimal n) (numeral (decimal_value (decimal n)) 0 ∷ []) = record { before = λ rest more r. reads_piece (decimal n) rest coded.Number more (number_at (decimal n) rest w.spelled short r.0) r.1 } in
    subst (λ (k : ℕ). Says true false (decimal n) (numeral k 0 ∷ [])) w.value digits
