-- The parts of a report's text.
use Rattle.std.proofs.Common.{◌≡◌, ◌↔◌, ℕ, zero, suc, ◌+◌, ◌-◌, ◌<◌, ◌≤◌, ◌⊎◌, Bool, false, ◌&&◌, IsTrue, List, [], ◌∷◌, ◌++◌, length, take, drop, Some, inl, inr, codes, refl, sym, ap, subst, ◌∙◌, append_assoc, length-append, arith}
use Rattle.std.specs.Prelude.{slice_get}
use Rattle.std.specs.List.{list_all, AllByRecursion as Each}
use Rattle.std.proofs.lemmas.Bool.{and_parts, cases_lt, cases_order, false≢true}
use Rattle.std.proofs.lemmas.List.{drop_all, length-take-le, take-append-drop}
use Rattle.std.proofs.Math.Seq.{drop-append-add, drop-append_seam}
use Rattle.lang_base.specs.Lines.{is_in_line}
use Rattle.lang_base.proofs.Cuts.{same_first, same_rest}
use Rattle.lang_base.proofs.Lines.{HasNoLineFeed, IsLine}
use Rattle.lang_printer.specs.Canonical.{all_texts}
use Rattle.report_fits.specs.FitParts.{AreParts, GoesOnWithFit, HasFitAt, IsLineStart}

-- ---- one parting

no_shorter : (bytes report fits other others : List ℕ) → AreParts bytes report fits → AreParts bytes other others → length report < length other → ⊥
no_shorter bytes report fits other others are also below = elim are.begins [
  | inl none ↦ absurd (omega (arith, below, ap {B = ℕ} length are.joined, length-append report fits, ap {B = ℕ} length none, ap {B = ℕ} length also.joined, length-append other others))
  | inr here ↦ also.first (length report) below here
]

same_fronts : (xs ys front back : List ℕ) → length xs ≡ length ys → xs ++ front ≡ ys ++ back → (xs ≡ ys) × (front ≡ back)
same_fronts [] [] front back many same = (refl, same)
same_fronts [] (y ∷ ys) front back many same = absurd (omega (arith, many))
same_fronts (x ∷ xs) [] front back many same = absurd (omega (arith, many))
same_fronts (x ∷ xs) (y ∷ ys) front back many same =
    let more = same_fronts xs ys front back (omega (arith, many)) (same_rest x y (xs ++ front) (ys ++ back) same) in
    (λ i. same_first x y (xs ++ front) (ys ++ back) same i ∷ more.0 i, more.1)

pub same_parts : (bytes report fits other others : List ℕ) → AreParts bytes report fits → AreParts bytes other others → (report ≡ other) × (fits ≡ others)
same_parts bytes report fits other others are also = elim (cases_order (length report) (length other)) [
  | inl many ↦ same_fronts report other fits others many (are.joined ∙ sym also.joined)
  | inr (inl below) ↦ absurd (no_shorter bytes report fits other others are also below)
  | inr (inr above) ↦ absurd (no_shorter bytes other others report fits also are above)
]

-- ---- found by going through the places

pub parted_at : (bytes front back : List ℕ) (place : ℕ) → place < length bytes → front ≡ take place bytes → back ≡ drop place bytes
    → ((before : ℕ) → before < place → HasFitAt bytes before → ⊥) → HasFitAt bytes place → AreParts bytes front back
parted_at bytes front back place low is rest none here = record {
  joined = ap (λ (one : List ℕ). one ++ back) is ∙ ap (λ (one : List ℕ). take place bytes ++ one) rest ∙ take-append-drop place bytes;
  begins = inr (subst (HasFitAt bytes) (sym many) here);
  first = λ before below. none before (omega (arith, below, many));
}
  where
    many : length front ≡ place
    many = ap {B = ℕ} length is ∙ length-take-le place bytes (omega (arith, low))

pub not_parted : (bytes front back : List ℕ) (place : ℕ) → length bytes ≤ place → front ≡ take (length bytes) bytes → back ≡ drop (length bytes) bytes
    → ((before : ℕ) → before < place → HasFitAt bytes before → ⊥) → AreParts bytes front back
not_parted bytes front back place end is rest none = record {
  joined = ap (λ (one : List ℕ). one ++ back) is ∙ ap (λ (one : List ℕ). take (length bytes) bytes ++ one) rest ∙ take-append-drop (length bytes) bytes;
  begins = inl (rest ∙ drop_all (length bytes) bytes (omega arith));
  first = λ before below. none before (omega (arith, below, end, ap {B = ℕ} length is, length-take-le (length bytes) bytes (omega arith)));
}

pub one_more_place : (bytes : List ℕ) (place : ℕ) (held : Bool) → ((before : ℕ) → before < place → HasFitAt bytes before → ⊥)
    → IsTrue held ↔ HasFitAt bytes place → held ≡ false → (before : ℕ) → before < place + 1 → HasFitAt bytes before → ⊥
one_more_place bytes place held none told fails before below here = elim (cases_lt before place) [
  | inl less ↦ none before less here
  | inr more ↦ let is : before ≡ place = omega (arith, below, more) in false≢true (sym fails ∙ told.1 (subst (HasFitAt bytes) is here))
]

-- ---- whether such a line begins at a place

pub both_here : (bytes : List ℕ) (place : ℕ) (start here : Bool) → IsTrue start ↔ IsLineStart bytes place
    → IsTrue here ↔ GoesOnWithFit (drop place bytes) → IsTrue (start && here) ↔ HasFitAt bytes place
both_here bytes place start here starts goes = (
  λ both. let parts = and_parts start here both in record { start = starts.0 parts.0; here = goes.0 parts.1 },
  λ is. ap (λ (one : Bool). one && here) (starts.1 is.start) ∙ goes.1 is.here,
)

-- ---- texts of lines that are no such lines

-- a line that doesn't begin with `proof fits `
pub record IsOtherLine (text : List ℕ) : Type 0 where
  pub line : IsLine text
  pub other : (rest more : List ℕ) → codes "proof fits " ++ rest ≡ text ++ more → ⊥

plain_at : (body more : List ℕ) (k : ℕ) → HasNoLineFeed body → k < length body → slice_get (body ++ more) k ≡ Some 10 → ⊥
plain_at [] more k plain low is = absurd (omega (arith, low))
plain_at (byte ∷ body) more zero plain low is =
    let parts = and_parts (is_in_line byte) (list_all is_in_line body) plain in
    false≢true (sym (ap is_in_line (same_byte byte 10 is)) ∙ parts.0)
  where
    same_byte : (x y : ℕ) → Some x ≡ Some y → x ≡ y
    same_byte x y same = cc
plain_at (byte ∷ body) more (suc k) plain low is =
    plain_at body more k (and_parts (is_in_line byte) (list_all is_in_line body) plain).1 (omega (arith, low)) is

in_line : (text more : List ℕ) (place : ℕ) → IsOtherLine text → place < length text → HasFitAt (text ++ more) place → ⊥
in_line text more zero is low has = is.other has.here.0 more has.here.1
in_line text more (suc k) is low has = elim has.start [
  | inl none ↦ absurd (omega (arith, none))
  | inr there ↦
      let body : List ℕ = is.line.body in
      let many : length text ≡ length body + 1 = ap {B = ℕ} length is.line.is ∙ length-append body (codes "\n") in
      let whole : text ++ more ≡ body ++ (codes "\n" ++ more) = ap (λ (one : List ℕ). one ++ more) is.line.is ∙ append_assoc body (codes "\n") more in
      let at : suc k - 1 ≡ k = omega arith in
      plain_at body (codes "\n" ++ more) k is.line.plain (omega (arith, low, many))
      (ap (λ (one : List ℕ). slice_get one k) (sym whole) ∙ ap (slice_get (text ++ more)) (sym at) ∙ there)
]

get_later : (xs ys : List ℕ) (k : ℕ) → slice_get (xs ++ ys) (length xs + k) ≡ slice_get ys k
get_later [] ys k = let same : 0 + k ≡ k = omega arith in ap (slice_get ys) same
get_later (x ∷ xs) ys k =
    let same : length (x ∷ xs) + k ≡ suc (length xs + k) = omega arith in
    ap (slice_get (x ∷ (xs ++ ys))) same ∙ get_later xs ys k

-- after a line
start_later : (text more : List ℕ) (q : ℕ) → 0 < length text → IsLineStart (text ++ more) (length text + q) → IsLineStart more q
start_later text more zero some start = inl refl
start_later text more (suc k) some (inl none) = absurd (omega (arith, none))
start_later text more (suc k) some (inr there) =
    let at : length text + suc k - 1 ≡ length text + k = omega arith in
    let own : suc k - 1 ≡ k = omega arith in
    inr (ap (slice_get more) own ∙ sym (get_later text more k) ∙ ap (slice_get (text ++ more)) (sym at) ∙ there)

later : (text more : List ℕ) (q : ℕ) → 0 < length text → HasFitAt (text ++ more) (length text + q) → HasFitAt more q
later text more q some has = record {
  start = start_later text more q some has.start;
  here = (has.here.0, has.here.1 ∙ drop-append-add text more q);
}

none_in_lines : (lines : List (List ℕ)) (rest : List ℕ) (place : ℕ) → Each IsOtherLine lines → place < length (all_texts lines)
    → HasFitAt (all_texts lines ++ rest) place → ⊥
none_in_lines [] rest place each low has = absurd (omega (arith, low))
none_in_lines (text ∷ lines) rest place each low has =
    let whole : all_texts (text ∷ lines) ++ rest ≡ text ++ (all_texts lines ++ rest) = append_assoc text (all_texts lines) rest in
    let own : HasFitAt (text ++ (all_texts lines ++ rest)) place = subst (λ (one : List ℕ). HasFitAt one place) whole has in
    elim (cases_lt place (length text)) [
      | inl less ↦ in_line text (all_texts lines ++ rest) place each.0 less own
      | inr more ↦
          let at : length text + (place - length text) ≡ place = omega (arith, more) in
          none_in_lines lines rest (place - length text) each.1 (omega (arith, low, more, length-append text (all_texts lines)))
          (later text (all_texts lines ++ rest) (place - length text) (some_bytes text each.0) (subst (HasFitAt (text ++ (all_texts lines ++ rest))) (sym at) own))
    ]
  where
    some_bytes : (text : List ℕ) → IsOtherLine text → 0 < length text
    some_bytes text is = omega (arith, ap {B = ℕ} length is.line.is, length-append is.line.body (codes "\n"))

-- a line begins after lines
start_after : (lines : List (List ℕ)) (rest : List ℕ) → Each IsOtherLine lines → IsLineStart (all_texts lines ++ rest) (length (all_texts lines))
start_after [] rest each = inl refl
start_after (text ∷ lines) rest each = by_rest (start_after lines rest each.1)
  where
    text_is : all_texts (text ∷ lines) ++ rest ≡ text ++ (all_texts lines ++ rest)
    text_is = append_assoc text (all_texts lines) rest

    many : length (all_texts (text ∷ lines)) ≡ length text + length (all_texts lines)
    many = length-append text (all_texts lines)

    body : List ℕ
    body = each.0.line.body

    whole : text ++ (all_texts lines ++ rest) ≡ body ++ (codes "\n" ++ (all_texts lines ++ rest))
    whole = ap (λ (one : List ℕ). one ++ (all_texts lines ++ rest)) each.0.line.is ∙ append_assoc body (codes "\n") (all_texts lines ++ rest)

    long : length text ≡ length body + 1
    long = ap {B = ℕ} length each.0.line.is ∙ length-append body (codes "\n")

    last_one : length (all_texts lines) ≡ 0 → IsLineStart (all_texts (text ∷ lines) ++ rest) (length (all_texts (text ∷ lines)))
    last_one none =
        let at : length (all_texts (text ∷ lines)) - 1 ≡ length body + 0 = omega (arith, many, long, none) in
        inr (ap (λ (one : List ℕ). slice_get one (length (all_texts (text ∷ lines)) - 1)) (text_is ∙ whole)
        ∙ ap (slice_get (body ++ (codes "\n" ++ (all_texts lines ++ rest)))) at
        ∙ get_later body (codes "\n" ++ (all_texts lines ++ rest)) 0)

    by_rest : IsLineStart (all_texts lines ++ rest) (length (all_texts lines)) → IsLineStart (all_texts (text ∷ lines) ++ rest) (length (all_texts (text ∷ lines)))
    by_rest (inl none) = last_one none
    by_rest (inr there) = elim (cases_lt 0 (length (all_texts lines))) [
      | inl some ↦
          let at : length (all_texts (text ∷ lines)) - 1 ≡ length text + (length (all_texts lines) - 1) = omega (arith, many, some) in
          inr (ap (λ (one : List ℕ). slice_get one (length (all_texts (text ∷ lines)) - 1)) text_is
          ∙ ap (slice_get (text ++ (all_texts lines ++ rest))) at
          ∙ get_later text (all_texts lines ++ rest) (length (all_texts lines) - 1) ∙ there)
      | inr none ↦ last_one (omega (arith, none))
    ]

-- the lines, and then a text that is empty or begins with such a line
pub lines_parted : (lines : List (List ℕ)) (fits : List ℕ) → Each IsOtherLine lines → (fits ≡ []) ⊎ GoesOnWithFit fits
    → AreParts (all_texts lines ++ fits) (all_texts lines) fits
lines_parted lines fits each begins = record {
  joined = refl;
  begins = by_text begins;
  first = λ place low. none_in_lines lines fits place each low;
}
  where
    by_text : (fits ≡ []) ⊎ GoesOnWithFit fits → (fits ≡ []) ⊎ HasFitAt (all_texts lines ++ fits) (length (all_texts lines))
    by_text (inl none) = inl none
    by_text (inr goes) = inr (record { start = start_after lines fits each; here = (goes.0, goes.1 ∙ sym (drop-append_seam (all_texts lines) fits)) })
