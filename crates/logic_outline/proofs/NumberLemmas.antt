-- Numbers at the front of a text.
use Rattle.std.proofs.Common.{◌≡◌, Bor, Option, None, Some, Result, Ok, Err, ℕ, zero, suc, ◌<◌, ◌≤◌, ◌^◌, ◌==◌, Bool, true, false, List, [], ◌∷◌, ◌++◌, length, take, drop, ℤ, pos, negsuc, codes, decimal, sym, ap, refl, ◌∙◌, subst, arith, IfSome, IsSomeAnd, IsTrue, ◌↔◌}
use Rattle.std.specs.Fmt.{signed_decimal}
use Rattle.std.specs.Str.{IsUtf8}
use Rattle.std.specs.Str.Parse.{AllDigits, digits_value, ParsesUnsigned}
use Rattle.std.specs.List.{prefix_len}
use Rattle.std.specs.Cmp.Lexicographic.{pointwise}
use Rattle.std.specs.Bool.{Decides}
use Rattle.std.proofs.Math.Seq.{take-append_seam, drop-append_seam}
use Rattle.std.proofs.lemmas.Bool.Decides.{Decides-eqb, nat_tests}
use Rattle.std.proofs.lemmas.Fmt.{IsAscii-decimal_wide, decimal_is_IsNumeral_wide, parse-decimal_wide}
use Rattle.std.proofs.lemmas.List.{take-append-drop, append_cancel_left}
use Rattle.std.proofs.lemmas.Slice.Eq.{slice_eq-Decides}
use Rattle.std.proofs.lemmas.Str.{IsUtf8-from_ascii}
use Rattle.std.proofs.lemmas.Str.Parse.{digit_from_value}
use Rattle.lang_base.specs.Identifiers.{is_digit}
use Rattle.logic_outline.specs.Outlines.{IsFactor}
use Rattle.logic_outline.specs.Readings.{EndsNumber, IsRead}
use Rattle.logic_outline.specs.inner.Parts.{IsBelow, IsBelowZero, IsFromZero, later_number, text_below_zero}
use Rattle.logic_outline.proofs.Readings.{Turns, turned, turn_refused}

-- ---- a word at the front

bytes_tell : (xs ys : List ℕ) → Decides (pointwise ◌==◌ xs ys) (xs ≡ ys)
bytes_tell xs ys = slice_eq-Decides Decides-eqb xs ys (pointwise ◌==◌ xs ys) refl

front_is : (word rest bytes : List ℕ) → word ++ rest ≡ bytes → take (length word) bytes ≡ word
front_is word rest bytes is = sym (ap (take (length word)) is) ∙ take-append_seam word rest

pub not_after : (word bytes : List ℕ) → pointwise ◌==◌ (take (length word) bytes) word ≡ false →
    (rest : List ℕ) → word ++ rest ≡ bytes → ⊥
not_after word bytes never rest is = let found : pointwise ◌==◌ (take (length word) bytes) word ≡ true = (bytes_tell (take (length word) bytes) word).1 (front_is word rest bytes is) in absurd cc

pub is_after : (word bytes rest : List ℕ) → pointwise ◌==◌ (take (length word) bytes) word ≡ true
    → rest ≡ drop (length word) bytes → word ++ rest ≡ bytes
is_after word bytes rest same is =
    let front : take (length word) bytes ≡ word = (bytes_tell (take (length word) bytes) word).0 same in
    ap (λ (r : List ℕ). word ++ r) is ∙ ap (λ (w : List ℕ). w ++ drop (length word) bytes) (sym front) ∙ take-append-drop (length word) bytes

-- ---- a number of 128 bits

wide : (n : ℕ) → n < 2 ^ 128 → n < 10 ^ 64
wide n h = omega arith

pub not_utf8 : (text : List ℕ) → (IsUtf8 text → ⊥) → (n : ℕ) → n < 2 ^ 128 → decimal n ≡ text → ⊥
not_utf8 text never n h is = never (subst IsUtf8 is (IsUtf8-from_ascii (decimal n) (IsAscii-decimal_wide n (wide n h))))

pub not_parsed : {E : Type 0} (text : List ℕ) (e : E) → ParsesUnsigned 128 10 text (Err e) → (n : ℕ)
    → n < 2 ^ 128 → decimal n ≡ text → ⊥
not_parsed {E} text e never n h is = let ok : ◌≡◌ {A = Result ℕ E} (Err e) (Ok n) = parse-decimal_wide 128 n text (Err e) h (wide n h) (sym is) never in absurd cc

pub not_this : (text : List ℕ) (number : ℕ) → ParsesUnsigned {E = ℕ} 128 10 text (Ok number) → (decimal number ≡ text → ⊥) → (n : ℕ) → n < 2 ^ 128 → decimal n ≡ text → ⊥
not_this text number parsed never n h is =
    let ok : ◌≡◌ {A = Result ℕ ℕ} (Ok number) (Ok n) = parse-decimal_wide 128 n text (Ok number) h (wide n h) (sym is) parsed in
    let same : number ≡ n = cc in
    never (ap decimal same ∙ is)

pub not_text : (answer : Bool) (number : ℕ) (text word : List ℕ)
    → (IsTrue answer ↔ (decimal number ≡ text)) → text ≡ word → answer ≡ false
    → decimal number ≡ word → ⊥
not_text answer number text word says same refused is = let found : answer ≡ true = says.1 (is ∙ sym same) in absurd cc

-- ---- digits, and then no digit

digit_is : (byte : ℕ) → (48 ≤ byte) × (byte ≤ 57) → is_digit byte ≡ true
digit_is byte h = let low = h.0 in let high = h.1 in grind (arith, nat_tests)

ends_at : (left : List ℕ) → EndsNumber left → prefix_len is_digit left ≡ 0
ends_at [] ends = refl
ends_at (byte ∷ bytes) ends = rw ends refl

digits_then : (ds left : List ℕ) → AllDigits 10 ds → EndsNumber left
    → prefix_len is_digit (ds ++ left) ≡ length ds
digits_then [] left all ends = ends_at left ends
digits_then (d ∷ ds) left all ends = let more = digits_then ds left all.1 ends in rw (digit_is d (digit_from_value d all.0)) (omega (arith, more))

-- the digits at the front are all of the number
cut_number : (n : ℕ) (left bytes : List ℕ) (len : ℕ) → n < 2 ^ 128 → EndsNumber left
    → decimal n ++ left ≡ bytes → len ≡ prefix_len is_digit bytes
    → (decimal n ≡ take len bytes) × (drop len bytes ≡ left)
cut_number n left bytes len h ends is at =
    let whole : len ≡ length (decimal n) = at ∙ ap (prefix_len is_digit) (sym is) ∙ digits_then (decimal n) left (decimal_is_IsNumeral_wide n (wide n h)).0.1 ends in (
      sym (ap (λ (k : ℕ). take k bytes) whole ∙ ap (take (length (decimal n))) (sym is) ∙ take-append_seam (decimal n) left),
      ap (λ (k : ℕ). drop k bytes) whole ∙ ap (drop (length (decimal n))) (sym is) ∙ drop-append_seam (decimal n) left,
    )

one_number : (m n : ℕ) → m < 2 ^ 128 → n < 2 ^ 128 → decimal m ≡ decimal n → m ≡ n
one_number m n low high is = sym (decimal_is_IsNumeral_wide m (wide m low)).1 ∙ ap (digits_value 10) is ∙ (decimal_is_IsNumeral_wide n (wide n high)).1

pub no_number : (bytes digits : List ℕ) (len : ℕ) → len ≡ prefix_len is_digit bytes
    → digits ≡ take len bytes → ((n : ℕ) → n < 2 ^ 128 → decimal n ≡ digits → ⊥)
    → IsRead decimal (IsBelow (2 ^ 128)) bytes None
no_number bytes digits len at front never = record {
  found = tt;
  again = λ n left fits ends is. never n fits ((cut_number n left bytes len fits ends is at).0 ∙ sym front);
}

pub a_number : (bytes digits : List ℕ) (len number : ℕ) (rest : Bor (List ℕ))
    → len ≡ prefix_len is_digit bytes → digits ≡ take len bytes → rest.now ≡ drop len bytes
    → number < 2 ^ 128 → decimal number ≡ digits
    → IsRead decimal (IsBelow (2 ^ 128)) bytes (Some (number, rest))
a_number bytes digits len number rest at front back fits is = record {
  found = (fits, ap (λ (t : List ℕ). t ++ rest.now) (is ∙ front) ∙ ap (λ (r : List ℕ). take len bytes ++ r) back ∙ take-append-drop len bytes);
  again = λ n left small ends same.
      let parts = cut_number n left bytes len small ends same at in
      (one_number number n fits small (is ∙ front ∙ sym parts.0), back ∙ parts.1);
}

-- ---- factors

abbrev first_byte : List ℕ → ℕ
first_byte [] = 0
first_byte (byte ∷ bytes) = byte

no_sign : (ds left : List ℕ) → 0 < length ds → AllDigits 10 ds → first_byte (ds ++ left) ≡ 45 → ⊥
no_sign [] left some all is = absurd (omega arith)
no_sign (d ∷ ds) left some all is = let range = digit_from_value d all.0 in absurd (omega (arith, range.0, is))

signed_found : (digits bytes : List ℕ) (read : Option (ℤ × Bor (List ℕ)))
    → codes "-" ++ digits ≡ bytes
    → IfSome read (λ one. IsBelowZero one.0 × (text_below_zero one.0 ++ one.1.now ≡ digits))
    → IfSome read (λ one. IsFactor one.0 × (signed_decimal one.0 ++ one.1.now ≡ bytes))
signed_found digits bytes None is f = tt
signed_found digits bytes (Some one) is f = by one.0 one.1.now f.0 f.1
  where
    by : (z : ℤ) (rest : List ℕ) → IsBelowZero z → text_below_zero z ++ rest ≡ digits
        → IsFactor z × (signed_decimal z ++ rest ≡ bytes)
    by (pos n) rest fits same = absurd fits
    by (negsuc n) rest fits same = (fits, ap (λ (t : List ℕ). 45 ∷ t) same ∙ is)

pub signed : (digits bytes : List ℕ) (read : Option (ℤ × Bor (List ℕ)))
    → codes "-" ++ digits ≡ bytes → IsRead text_below_zero IsBelowZero digits read
    → IsRead signed_decimal IsFactor bytes read
signed digits bytes read is r = record { found = signed_found digits bytes read is r.found; again = again }
  where
    again : (z : ℤ) (left : List ℕ) → IsFactor z → EndsNumber left
        → signed_decimal z ++ left ≡ bytes
        → IsSomeAnd read (λ one. (one.0 ≡ z) × (one.1.now ≡ left))
    again (pos n) left fits ends same =
        let number = (decimal_is_IsNumeral_wide n (omega (arith, fits))).0 in
        absurd (no_sign (decimal n) left number.0 number.1 (ap first_byte (same ∙ sym is)))
    again (negsuc n) left fits ends same = r.again (negsuc n) left fits ends (append_cancel_left (codes "-") (decimal (suc n) ++ left) digits (same ∙ sym is))

unsigned_found : (bytes : List ℕ) (read : Option (ℤ × Bor (List ℕ)))
    → IfSome read (λ one. IsFromZero one.0 × (signed_decimal one.0 ++ one.1.now ≡ bytes))
    → IfSome read (λ one. IsFactor one.0 × (signed_decimal one.0 ++ one.1.now ≡ bytes))
unsigned_found bytes None f = tt
unsigned_found bytes (Some one) f = (by one.0 f.0, f.1)
  where
    by : (z : ℤ) → IsFromZero z → IsFactor z
    by (pos n) fits = fits
    by (negsuc n) fits = absurd fits

pub unsigned : (bytes : List ℕ) (read : Option (ℤ × Bor (List ℕ)))
    → ((rest : List ℕ) → codes "-" ++ rest ≡ bytes → ⊥)
    → IsRead signed_decimal IsFromZero bytes read → IsRead signed_decimal IsFactor bytes read
unsigned bytes read never r = record { found = unsigned_found bytes read r.found; again = again }
  where
    again : (z : ℤ) (left : List ℕ) → IsFactor z → EndsNumber left
        → signed_decimal z ++ left ≡ bytes
        → IsSomeAnd read (λ one. (one.0 ≡ z) × (one.1.now ≡ left))
    again (pos n) left fits ends same = r.again (pos n) left fits ends same
    again (negsuc n) left fits ends same = absurd (never (decimal (suc n) ++ left) same)

abbrev from_zero_of : ℤ → ℕ
from_zero_of (pos n) = n
from_zero_of (negsuc n) = 0

abbrev pub from_zero_turns : Turns decimal (IsBelow (2 ^ 128)) signed_decimal IsFromZero
from_zero_turns = record { to = λ n. pos n; from = from_zero_of; is = is; fits = fits; same = same }
  where
    is : (z : ℤ) → IsFromZero z → pos (from_zero_of z) ≡ z
    is (pos n) h = refl
    is (negsuc n) h = absurd h

    fits : (z : ℤ) → IsFromZero z → from_zero_of z < 2 ^ 128
    fits (pos n) h = omega (arith, h)
    fits (negsuc n) h = absurd h

    same : (z : ℤ) → IsFromZero z → signed_decimal z ≡ decimal (from_zero_of z)
    same (pos n) h = refl
    same (negsuc n) h = absurd h

abbrev below_zero_of : ℤ → ℕ
below_zero_of (pos n) = 0
below_zero_of (negsuc n) = suc n

abbrev to_below_zero : ℕ → ℤ
to_below_zero zero = pos 0
to_below_zero (suc n) = negsuc n

abbrev pub below_zero_turns : Turns decimal (IsBelow (2 ^ 128)) text_below_zero IsBelowZero
below_zero_turns = record { to = to_below_zero; from = below_zero_of; is = is; fits = fits; same = same }
  where
    is : (z : ℤ) → IsBelowZero z → to_below_zero (below_zero_of z) ≡ z
    is (pos n) h = absurd h
    is (negsuc n) h = refl

    fits : (z : ℤ) → IsBelowZero z → below_zero_of z < 2 ^ 128
    fits (pos n) h = absurd h
    fits (negsuc n) h = omega (arith, h)

    same : (z : ℤ) → IsBelowZero z → text_below_zero z ≡ decimal (below_zero_of z)
    same (pos n) h = absurd h
    same (negsuc n) h = refl

-- ---- numbers of fewer bits

abbrev pub narrow_turns : (limit : ℕ) → limit ≤ 2 ^ 128
    → Turns later_number (IsBelow (2 ^ 128)) later_number (IsBelow limit)
narrow_turns limit most = record { to = λ n. n; from = λ n. n; is = λ n h. refl; fits = λ n h. omega (arith, h, most); same = λ n h. refl }

module _ (limit : ℕ) (bytes : List ℕ) (number : ℕ) (rest : Bor (List ℕ)) (r : IsRead later_number (IsBelow (2 ^ 128)) bytes (Some (number, rest))) (most : limit ≤ 2 ^ 128) where
  pub narrow_is : number < limit → IsRead later_number (IsBelow limit) bytes (Some (number, rest))
  narrow_is h = turned later_number (IsBelow (2 ^ 128)) later_number (IsBelow limit) (narrow_turns limit most) bytes (number, rest) number r refl h refl

  pub narrow_over : limit ≤ number → IsRead later_number (IsBelow limit) bytes None
  narrow_over h = turn_refused later_number (IsBelow (2 ^ 128)) later_number (IsBelow limit) (narrow_turns limit most) bytes (number, rest) r (λ n fits is. absurd (omega (arith, h, fits, is)))

module _ (bytes : List ℕ) (number : ℕ) (rest : Bor (List ℕ)) (r : IsRead decimal (IsBelow (2 ^ 128)) bytes (Some (number, rest))) where
  pub from_zero_is : (z : ℤ) → z ≡ pos number → number < 2 ^ 127
      → IsRead signed_decimal IsFromZero bytes (Some (z, rest))
  from_zero_is z is h = subst (λ (y : ℤ). IsRead signed_decimal IsFromZero bytes (Some (y, rest))) (sym is) (turned decimal (IsBelow (2 ^ 128)) signed_decimal IsFromZero from_zero_turns bytes (number, rest) (pos number) r refl h refl)

  pub from_zero_over : 2 ^ 127 ≤ number → IsRead signed_decimal IsFromZero bytes None
  from_zero_over h = turn_refused decimal (IsBelow (2 ^ 128)) signed_decimal IsFromZero from_zero_turns bytes (number, rest) r refused
    where
      refused : (z : ℤ) → IsFromZero z → number ≡ from_zero_of z → ⊥
      refused (pos n) fits is = absurd (omega (arith, h, fits, is))
      refused (negsuc n) fits is = fits

  pub below_zero_is : (z : ℤ) (n : ℕ) → z ≡ negsuc n → number ≡ suc n → n < 2 ^ 127
      → IsRead text_below_zero IsBelowZero bytes (Some (z, rest))
  below_zero_is z n is one h = subst (λ (y : ℤ). IsRead text_below_zero IsBelowZero bytes (Some (y, rest))) (sym is) (turned decimal (IsBelow (2 ^ 128)) text_below_zero IsBelowZero below_zero_turns bytes (number, rest) (negsuc n) r (sym (ap to_below_zero one)) h (ap decimal (sym one)))

  pub below_zero_over : ((n : ℕ) → number ≡ suc n → n < 2 ^ 127 → ⊥)
      → IsRead text_below_zero IsBelowZero bytes None
  below_zero_over never = turn_refused decimal (IsBelow (2 ^ 128)) text_below_zero IsBelowZero below_zero_turns bytes (number, rest) r refused
    where
      refused : (z : ℤ) → IsBelowZero z → number ≡ below_zero_of z → ⊥
      refused (pos n) fits is = fits
      refused (negsuc n) fits is = never n is fits
