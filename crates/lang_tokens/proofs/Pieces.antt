-- The piece that is computed is the one that starts there, and no other does.
use Rattle.std.proofs.Common.{◌≡◌, ℕ, suc, ◌+◌, ◌≤◌, Bool, true, false, cond, eqb, ◌&&◌, List, [], ◌∷◌, ◌++◌, length, take, drop, All, Option, Some, None, refl, sym, ap, subst, ◌∙◌, arith}
use Rattle.std.specs.Prelude.{nat_eq, nat_lt, Contains, IfSome, find, option_map}
use Rattle.std.specs.List.{prefix_len, starts_with}
use Rattle.std.proofs.lemmas.Bool.{eqb-true, and_parts, ltb-false, le-ltb}
use Rattle.std.proofs.lemmas.List.{take-append-drop, length-take, take_at, drop_at}
use Rattle.std.proofs.lemmas.List.Elements.{All-head, All-tail, All-cons, All-nil}
use Rattle.lang_tokens.specs.declared.token.TokenKind.{TokenKind}
use Rattle.lang_tokens.specs.declared.piece.Class.{Class}
use Rattle.lang_tokens.specs.declared.piece.Class.TheVariants as classes
use Rattle.lang_tokens.specs.declared.piece.Shape.{Shape}
use Rattle.lang_tokens.specs.declared.piece.Shape.TheVariants as coded
use Rattle.lang_tokens.specs.Shapes.{Shape as Meant}
use Rattle.lang_tokens.specs.Shapes as shapes
use Rattle.lang_tokens.specs.Spelling.{SIGNS, is_word_byte, is_digit, is_in_line, is_run, IsShape, Starts, Piece, AreCut}
use Rattle.lang_tokens.specs.inner.Pieces.{class_of, meant, is_run as is_coded_run, other_at, by_class, longest_at, limited, sign_at}
use Rattle.lang_tokens.proofs.Classes.{letter_is, digit_is, blank_is, letter_class, digit_class, blank_class}
use Rattle.lang_tokens.proofs.Signs.{found_is, front_is, longest_sign, sign_begins}

-- ---- the longest front that passes

covers : (p : ℕ → Bool) (xs more : List ℕ) → All (λ b. p b ≡ true) xs → length xs ≤ prefix_len p (xs ++ more)
covers p [] more h = omega arith
covers p (x ∷ xs) more h =
    let at_x = All-head (λ b. p b ≡ true) x xs h in
    let others = covers p xs more (All-tail (λ b. p b ≡ true) x xs h) in
    rw at_x (omega (arith, others))

passes : (p : ℕ → Bool) (xs : List ℕ) → All (λ b. p b ≡ true) (take (prefix_len p xs) xs) × (prefix_len p xs ≤ length xs)
passes p [] = (All-nil (λ b. p b ≡ true), omega arith)
passes p (x ∷ xs) = by_test (p x) refl (passes p xs)
  where
    by_test : (t : Bool) → p x ≡ t → All (λ b. p b ≡ true) (take (prefix_len p xs) xs) × (prefix_len p xs ≤ length xs) → All (λ b. p b ≡ true) (take (cond t (1 + prefix_len p xs) 0) (x ∷ xs)) × (cond t (1 + prefix_len p xs) 0 ≤ suc (length xs))
    by_test true e h = (let one : 1 + prefix_len p xs ≡ suc (prefix_len p xs) = omega arith in rw one (All-cons (λ b. p b ≡ true) x (take (prefix_len p xs) xs) e h.0), omega (arith, h.1))
    by_test false e h = (All-nil (λ b. p b ≡ true), omega arith)

-- ---- what is computed reaches as far as any piece does

-- a shape and length that were computed, or none, against a shape and length
abbrev Reaches : Option (Shape × ℕ) → Meant → ℕ → Type 0
Reaches None shape n = ⊥
Reaches (Some p) shape n = (n ≤ p.1) × (n ≡ p.1 → shape ≡ meant p.0)

no_line : (first : ℕ) (rest : List ℕ) → eqb 47 first ≡ false → starts_with nat_eq (first ∷ rest) (47 ∷ 47 ∷ []) ≡ false
no_line first rest e = ap (λ (t : Bool). t && starts_with nat_eq rest (47 ∷ [])) e

abbrev signed : Option (TokenKind × ℕ) → Option (Shape × ℕ)
signed sign = option_map (λ sign. (coded.Sign sign.0, sign.1)) sign

-- where no word, number, blank or comment begins a sign is looked up
pub looked_up : (first : ℕ) (rest : List ℕ) → class_of first ≡ classes.Other → eqb 47 first ≡ false → longest_at (first ∷ rest) ≡ signed (sign_at (first ∷ rest))
unfolding longest_at other_at
looked_up first rest c e =
    ap (λ (k : Class). by_class k first rest) c
    ∙ ap (λ (t : Bool). cond t (Some (coded.Comment, prefix_len is_in_line (first ∷ rest))) (signed (sign_at (first ∷ rest)))) (no_line first rest e)

sign_reaches : (kind : TokenKind) (text more : List ℕ) → Contains SIGNS (text, kind) → Reaches (longest_at (text ++ more)) (shapes.Sign kind) (length text)
sign_reaches kind text more has =
    let begins = sign_begins text kind has in
    let l = longest_sign text kind more has in
    let parts : text ++ more ≡ begins.first ∷ (begins.more ++ more) = ap (λ (t : List ℕ). t ++ more) begins.is in
    let at_first = looked_up begins.first (begins.more ++ more) begins.other begins.no_comment in
    let at_text : longest_at (text ++ more) ≡ signed (sign_at (text ++ more)) = subst (λ (bytes : List ℕ). longest_at bytes ≡ signed (sign_at bytes)) (sym parts) at_first in
    let found : signed (sign_at (text ++ more)) ≡ Some (coded.Sign l.found.1, length l.found.0) = ap (λ (row : Option (List ℕ × TokenKind)). signed (option_map (λ row. (row.1, length row.0)) row)) l.is in
    subst (λ (o : Option (Shape × ℕ)). Reaches o (shapes.Sign kind) (length text)) (sym (at_text ∙ found)) (l.as_long, λ long. ap (λ (row : List ℕ × TokenKind). shapes.Sign row.1) (l.same long))

reaches : (shape : Meant) (text more : List ℕ) → IsShape shape text → Reaches (longest_at (text ++ more)) shape (length text)
unfolding longest_at other_at
reaches shapes.Blank text more (b, blank, is) = rw (is, blank_class b blank) (omega arith, λ same. refl)
reaches shapes.Comment text more (line, all, is) = rw is (omega (arith, covers is_in_line line more all), λ same. refl)
reaches shapes.Word text more (first, ws, letter, all, is) = rw (is, letter_class first letter) (omega (arith, covers is_word_byte ws more all), λ same. refl)
reaches shapes.Number text more (first, ds, digit, all, is) = rw (is, digit_class first digit) (omega (arith, covers is_digit ds more all), λ same. refl)
reaches (shapes.Sign kind) text more has = sign_reaches kind text more has

-- ---- what is computed is a piece

abbrev IsPieceAt : List ℕ → Option (Shape × ℕ) → Type 0
IsPieceAt bytes o = IfSome o (λ p. IsShape (meant p.0) (take p.1 bytes) × (p.1 ≤ length bytes))

sign_spells : (bytes : List ℕ) (o : Option (List ℕ × TokenKind)) → find (λ row. starts_with nat_eq bytes row.0) SIGNS ≡ o
    → IsPieceAt bytes (signed (option_map (λ row. (row.1, length row.0)) o))
sign_spells bytes None e = tt
sign_spells bytes (Some row) e =
    let f = found_is (λ (row : List ℕ × TokenKind). starts_with nat_eq bytes row.0) SIGNS row e in
    let front = front_is row.0 bytes f.0 in (
      subst (λ (text : List ℕ). Contains SIGNS (text, row.1)) front f.1,
      omega (arith, ap length front, length-take (length row.0) bytes),
    )

line_spells : (line : List ℕ) → IsPieceAt (47 ∷ 47 ∷ line) (Some (coded.Comment, prefix_len is_in_line (47 ∷ 47 ∷ line)))
line_spells line =
    let k = passes is_in_line line in
    let n : 1 + (1 + prefix_len is_in_line line) ≡ suc (suc (prefix_len is_in_line line)) = omega arith in
    rw n ((take (prefix_len is_in_line line) line, k.0, refl), omega (arith, k.1))

comment_spells : (bytes : List ℕ) → starts_with nat_eq bytes (47 ∷ 47 ∷ []) ≡ true → IsPieceAt bytes (Some (coded.Comment, prefix_len is_in_line bytes))
comment_spells [] e = absurd cc
comment_spells (a ∷ []) e = let parts = and_parts (eqb 47 a) false e in absurd (let clash : false ≡ true = parts.1 in cc)
comment_spells (a ∷ b ∷ line) e =
    let parts = and_parts (eqb 47 a) (eqb 47 b && true) e in
    let more = and_parts (eqb 47 b) true parts.1 in
    let first : 47 ≡ a = eqb-true 47 a parts.0 in
    let second : 47 ≡ b = eqb-true 47 b more.0 in
    subst (λ (x : ℕ). IsPieceAt (x ∷ b ∷ line) (Some (coded.Comment, prefix_len is_in_line (x ∷ b ∷ line)))) first
    (subst (λ (x : ℕ). IsPieceAt (47 ∷ x ∷ line) (Some (coded.Comment, prefix_len is_in_line (47 ∷ x ∷ line)))) second (line_spells line))

other_spells : (bytes : List ℕ) → IsPieceAt bytes (other_at bytes)
unfolding other_at
other_spells bytes = by_line (starts_with nat_eq bytes (47 ∷ 47 ∷ [])) refl
  where
    by_line : (t : Bool) → starts_with nat_eq bytes (47 ∷ 47 ∷ []) ≡ t → IsPieceAt bytes (cond t (Some (coded.Comment, prefix_len is_in_line bytes)) (signed (sign_at bytes)))
    by_line true e = comment_spells bytes e
    by_line false e = sign_spells bytes (find (λ row. starts_with nat_eq bytes row.0) SIGNS) refl

longest_spells : (bytes : List ℕ) → IsPieceAt bytes (longest_at bytes)
unfolding longest_at
longest_spells [] = tt
longest_spells (a ∷ rest) = at_class (class_of a) refl
  where
    at_class : (c : Class) → class_of a ≡ c → IsPieceAt (a ∷ rest) (by_class c a rest)
    at_class classes.Letter e = let k = passes is_word_byte rest in let n : 1 + prefix_len is_word_byte rest ≡ suc (prefix_len is_word_byte rest) = omega arith in rw n ((a, take (prefix_len is_word_byte rest) rest, letter_is a e, k.0, refl), omega (arith, k.1))
    at_class classes.Digit e = let k = passes is_digit rest in let n : 1 + prefix_len is_digit rest ≡ suc (prefix_len is_digit rest) = omega arith in rw n ((a, take (prefix_len is_digit rest) rest, digit_is a e, k.0, refl), omega (arith, k.1))
    at_class classes.Blank e = ((a, blank_is a e, refl), omega arith)
    at_class classes.Other e = other_spells (a ∷ rest)

-- ---- the piece that starts

abbrev piece_at : List ℕ → Option (Shape × ℕ)
piece_at bytes = limited (longest_at bytes)

limited_is : (o : Option (Shape × ℕ)) (p : Shape × ℕ) → limited o ≡ Some p → (o ≡ Some p) × (is_coded_run p.0 ≡ true → p.1 ≤ 32)
limited_is None p e = absurd cc
limited_is (Some q) p e = by_test (is_coded_run q.0 && nat_lt 32 q.1) refl e
  where
    by_test : (t : Bool) → (is_coded_run q.0 && nat_lt 32 q.1) ≡ t → cond t None (Some q) ≡ Some p → (Some q ≡ Some p) × (is_coded_run p.0 ≡ true → p.1 ≤ 32)
    by_test true h e = absurd cc
    by_test false h e = (e, λ run. let same : q ≡ p = cc in let short : nat_lt 32 q.1 ≡ false = rw (subst (λ (x : Shape × ℕ). is_coded_run x.0 ≡ true) (sym same) run) at h in subst (λ (x : Shape × ℕ). x.1 ≤ 32) same (ltb-false 32 q.1 short))

limited_from : (o : Option (Shape × ℕ)) (p : Shape × ℕ) → o ≡ Some p → (is_coded_run p.0 ≡ true → p.1 ≤ 32) → limited o ≡ Some p
limited_from o p e short = ap limited e ∙ by_run (is_coded_run p.0) refl
  where
    by_run : (t : Bool) → is_coded_run p.0 ≡ t → cond (t && nat_lt 32 p.1) None (Some p) ≡ Some p
    by_run false h = refl
    by_run true h = rw (le-ltb 32 p.1 (short h)) refl

reach_at : (o : Option (Shape × ℕ)) (p : Shape × ℕ) (shape : Meant) (n : ℕ) → o ≡ Some p → Reaches o shape n → (n ≤ p.1) × (n ≡ p.1 → shape ≡ meant p.0)
reach_at o p shape n e r = let at_p : Reaches (Some p) shape n = subst (λ (x : Option (Shape × ℕ)). Reaches x shape n) e r in at_p

run_is : (shape : Shape) → is_run (meant shape) ≡ is_coded_run shape
run_is coded.Blank = refl
run_is coded.Comment = refl
run_is coded.Word = refl
run_is coded.Number = refl
run_is (coded.Sign kind) = refl

-- What is computed starts there.
pub starts_from : (bytes : List ℕ) (shape : Shape) (n : ℕ) → piece_at bytes ≡ Some (shape, n) → Starts bytes (meant shape) (take n bytes) (drop n bytes) × (n ≤ length bytes)
starts_from bytes shape n e =
    let l = limited_is (longest_at bytes) (shape, n) e in
    let is : IsPieceAt bytes (Some (shape, n)) = subst (IsPieceAt bytes) l.0 (longest_spells bytes) in
    let within = is.1 in
    let len : length (take n bytes) ≡ n = omega (arith, length-take n bytes) in (
      record {
        front = sym (take-append-drop n bytes);
        spells = is.0;
        longest = λ other longer after parts spells.
            let r : Reaches (longest_at bytes) other (length longer) = subst (λ (b : List ℕ). Reaches (longest_at b) other (length longer)) (sym parts) (reaches other longer after spells) in
            let k = reach_at (longest_at bytes) (shape, n) other (length longer) l.0 r in
            omega (arith, k.0);
        fits = λ run. omega (arith, l.1 (sym (run_is shape) ∙ run));
      },
      within,
    )

found_at : (o : Option (Shape × ℕ)) (shape : Meant) (n : ℕ) → Reaches o shape n → (p : Shape × ℕ) × (o ≡ Some p)
found_at None shape n r = absurd r
found_at (Some p) shape n r = (p, refl)

-- a piece that is computed, for one of this shape and length
pub record IsComputed (bytes : List ℕ) (shape : Meant) (n : ℕ) : Type 0 where
  pub found : Shape
  pub is : piece_at bytes ≡ Some (found, n)
  pub means : meant found ≡ shape

-- What starts there is computed.
pub piece_from : (bytes : List ℕ) (shape : Meant) (text after : List ℕ) → Starts bytes shape text after → IsComputed bytes shape (length text)
piece_from bytes shape text after starts =
    let r : Reaches (longest_at bytes) shape (length text) = subst (λ (b : List ℕ). Reaches (longest_at b) shape (length text)) (sym starts.front) (reaches shape text after starts.spells) in
    let f = found_at (longest_at bytes) shape (length text) r in
    let k = reach_at (longest_at bytes) f.0 shape (length text) f.1 r in
    let is : IsPieceAt bytes (Some f.0) = subst (IsPieceAt bytes) f.1 (longest_spells bytes) in
    let len : length (take f.0.1 bytes) ≡ f.0.1 = omega (arith, length-take f.0.1 bytes, is.1) in
    let upper = starts.longest (meant f.0.0) (take f.0.1 bytes) (drop f.0.1 bytes) (sym (take-append-drop f.0.1 bytes)) is.0 in
    let same : length text ≡ f.0.1 = omega (arith, k.0, upper) in
    let whole : f.0 ≡ (f.0.0, length text) = λ i. (f.0.0, sym same i) in
    let means : meant f.0.0 ≡ shape = sym (k.1 same) in
    record {
      found = f.0.0;
      is = limited_from (longest_at bytes) (f.0.0, length text) (f.1 ∙ ap (λ (p : Shape × ℕ). Some p) whole) (λ run. starts.fits (ap is_run (sym means) ∙ run_is f.0.0 ∙ run));
      means = means;
    }

-- One piece starts at most.
pub one_start : (bytes : List ℕ) (s t : Meant) (x y rest after : List ℕ) → Starts bytes s x rest → Starts bytes t y after → (s ≡ t) × (x ≡ y) × (rest ≡ after)
one_start bytes s t x y rest after p q =
    let a = piece_from bytes s x rest p in
    let b = piece_from bytes t y after q in
    let both : Some (a.found, length x) ≡ Some (b.found, length y) = sym a.is ∙ b.is in
    let pair : (a.found, length x) ≡ (b.found, length y) = cc in
    let shape : s ≡ t = sym a.means ∙ ap (λ (p : Shape × ℕ). meant p.0) pair ∙ b.means in
    let len : length x ≡ length y = ap (λ (p : Shape × ℕ). p.1) pair in
    let lists : x ++ rest ≡ y ++ after = sym p.front ∙ q.front in
    (shape, sym (take_at x rest (length y) len) ∙ ap (take (length y)) lists ∙ take_at y after (length y) refl, sym (drop_at x rest (length y) len) ∙ ap (drop (length y)) lists ∙ drop_at y after (length y) refl)

-- ---- the whole text

pub AreCut-push : (bytes : List ℕ) (ps : List Piece) (p : Piece) (rest after : List ℕ) → AreCut bytes ps rest → Starts rest p.shape p.text after → AreCut bytes (ps ++ p ∷ []) after
AreCut-push bytes [] p rest after cut starts = (after, subst (λ (b : List ℕ). Starts b p.shape p.text after) (sym cut) starts, refl)
AreCut-push bytes (q ∷ qs) p rest after cut starts = (cut.0, cut.1, AreCut-push cut.0 qs p rest after cut.2 starts)

nothing_starts : (shape : Meant) (text after : List ℕ) → Starts [] shape text after → ⊥
unfolding longest_at
nothing_starts shape text after starts = let computed = piece_from [] shape text after starts in let none : None ≡ Some (computed.found, length text) = computed.is in absurd cc

same_piece : (p q : Piece) → p.shape ≡ q.shape → p.text ≡ q.text → p ≡ q
same_piece p q s t = λ i. record { shape = s i; text = t i }

-- There is one cut at most, and where it is one no place is stuck.
pub one_cut_at : (bytes : List ℕ) (ps qs : List Piece) (rest : List ℕ) → AreCut bytes ps [] → AreCut bytes qs rest → ((shape : Meant) (text after : List ℕ) → Starts rest shape text after → ⊥) → (ps ≡ qs) × (rest ≡ [])
one_cut_at bytes [] [] rest p q none = (refl, sym q ∙ p)
one_cut_at bytes [] (y ∷ qs) rest p q none = absurd (nothing_starts y.shape y.text q.0 (subst (λ (b : List ℕ). Starts b y.shape y.text q.0) p q.1))
one_cut_at bytes (x ∷ ps) [] rest p q none = absurd (none x.shape x.text p.0 (subst (λ (b : List ℕ). Starts b x.shape x.text p.0) q p.1))
one_cut_at bytes (x ∷ ps) (y ∷ qs) rest p q none =
    let same = one_start bytes x.shape y.shape x.text y.text p.0 q.0 p.1 q.1 in
    let others = one_cut_at q.0 ps qs rest (subst (λ (b : List ℕ). AreCut b ps []) same.2 p.2) q.2 none in
    (λ i. same_piece x y same.0 same.1 i ∷ others.0 i, others.1)
