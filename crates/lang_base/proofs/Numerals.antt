-- Decimal numbers: their bytes, and the number that they name.
use Rattle.std.proofs.Common.{◌≡◌, nat_lt, nat_le, ℕ, zero, suc, ◌+◌, ◌/◌, ◌%◌, ◌^◌, ◌<◌, ◌≤◌, ◌==◌, ◌⊎◌, Bool, true, false, ◌||◌, ℤ, pos, negsuc, List, [], ◌∷◌, length, ap, sym, refl, ◌∙◌, arith, inl, inr, eqb-true, pow-suc}
use Rattle.std.specs.List.{list_all}
use Rattle.std.specs.Fmt.{digits, digits_onto, digit_glyph, decimal, signed_decimal}
use Rattle.std.specs.Str.Parse.{digits_value}
use Rattle.std.proofs.lemmas.Bool.{le-leb, lt-ltb, and_from, or_right, cases_lt, cond-true, cond_both, false≢true}
use Rattle.std.proofs.lemmas.Fmt.{decimal_is_IsNumeral_wide, length-decimal-le_wide}
use Rattle.std.proofs.lemmas.Int.{ints}
use Rattle.lang_base.specs.Identifiers.{is_letter, is_digit, is_word_byte}
use Rattle.lang_base.specs.Numbers.{is_within}
use Rattle.lang_base.proofs.Cuts.{same_rest, all_weaker}

-- ---- digits

-- a byte of an identifier
pub digit_is_word : (byte : ℕ) → is_digit byte ≡ true → is_word_byte byte ≡ true
digit_is_word byte is = or_right (is_letter byte) (is_digit byte) is

glyph_is_digit : (digit : ℕ) → digit < 10 → is_digit (digit_glyph false digit) ≡ true
glyph_is_digit digit small =
    ap is_digit (cond-true (nat_lt digit 10) (48 + digit) (87 + digit) (lt-ltb digit 10 small))
    ∙ and_from (nat_le 48 (48 + digit)) (nat_le (48 + digit) 57) (le-leb 48 (48 + digit) (omega arith)) (le-leb (48 + digit) 57 (omega (arith, small)))

onto_digits : (room number : ℕ) (after : List ℕ) → list_all is_digit after ≡ true
    → list_all is_digit (digits_onto room 10 false number after) ≡ true
onto_digits zero number after all = all
onto_digits (suc room) number after all =
    let digit : ℕ = digit_glyph false (number % 10) in
    let more : list_all is_digit (digit ∷ after) ≡ true = and_from (is_digit digit) (list_all is_digit after) (glyph_is_digit (number % 10) (omega arith)) all in
    cond_both (number / 10 == 0) (digit ∷ after) (digits_onto room 10 false (number / 10) (digit ∷ after)) (λ text. list_all is_digit text ≡ true)
    (λ is. more) (λ is. onto_digits room (number / 10) (digit ∷ after) more)

pub decimal_digits : (number : ℕ) → list_all is_digit (decimal number) ≡ true
unfolding digits
decimal_digits number = onto_digits 64 number [] refl

onto_keeps : (room number : ℕ) (after : List ℕ)
    → length after ≤ length (digits_onto room 10 false number after)
onto_keeps zero number after = omega arith
onto_keeps (suc room) number after =
    let digit : ℕ = digit_glyph false (number % 10) in
    let more : suc (length after) ≤ length (digits_onto room 10 false (number / 10) (digit ∷ after)) = onto_keeps room (number / 10) (digit ∷ after) in
    cond_both (number / 10 == 0) (digit ∷ after) (digits_onto room 10 false (number / 10) (digit ∷ after)) (λ text. length after ≤ length text)
    (λ is. omega arith) (λ is. omega (arith, more))

pub decimal_some : (number : ℕ) → 0 < length (decimal number)
unfolding digits
decimal_some number =
    let digit : ℕ = digit_glyph false (number % 10) in
    cond_both (number / 10 == 0) (digit ∷ []) (digits_onto 63 10 false (number / 10) (digit ∷ [])) (λ text. 0 < length text)
    (λ is. omega arith) (λ is. omega (arith, onto_keeps 63 (number / 10) (digit ∷ [])))

-- ---- the number that a text names, where the text has it in full: it has at most 64 digits

abbrev pub IsShort : ℕ → Type 0
IsShort number = number < 10 ^ 64

pub same_number : (number other : ℕ) → IsShort number → IsShort other
    → decimal number ≡ decimal other → number ≡ other
same_number number other short also same =
    sym (decimal_is_IsNumeral_wide number short).1 ∙ ap (digits_value 10) same ∙ (decimal_is_IsNumeral_wide other also).1

-- ---- whole numbers

abbrev pub IsShortInt : ℤ → Type 0
IsShortInt (pos number) = IsShort number
IsShortInt (negsuc number) = IsShort (suc number)

-- a digit or a minus sign, byte 45
abbrev pub is_figure : ℕ → Bool
is_figure byte = is_digit byte || byte == 45

digit_is_figure : (byte : ℕ) → is_digit byte ≡ true → is_figure byte ≡ true
digit_is_figure byte is = ap (λ test. test || byte == 45) is

pub signed_figures : (number : ℤ) → list_all is_figure (signed_decimal number) ≡ true
signed_figures (pos number) = all_weaker is_digit is_figure digit_is_figure (decimal number) (decimal_digits number)
signed_figures (negsuc number) = all_weaker is_digit is_figure digit_is_figure (decimal (suc number)) (decimal_digits (suc number))

pub no_minus : (number : ℕ) (rest : List ℕ) → decimal number ≡ 45 ∷ rest → ⊥
no_minus number rest same = false≢true (ap (list_all is_digit) (sym same) ∙ decimal_digits number)

pub same_signed : (number other : ℤ) → IsShortInt number → IsShortInt other
    → signed_decimal number ≡ signed_decimal other → number ≡ other
same_signed (pos number) (pos other) short also same = ap pos (same_number number other short also same)
same_signed (pos number) (negsuc other) short also same = absurd (no_minus number (decimal (suc other)) same)
same_signed (negsuc number) (pos other) short also same = absurd (no_minus other (decimal (suc number)) (sym same))
same_signed (negsuc number) (negsuc other) short also same =
    let is : suc number ≡ suc other = same_number (suc number) (suc other) short also (same_rest 45 45 (decimal (suc number)) (decimal (suc other)) same) in
    ap negsuc (omega (arith, is))

-- ---- numbers of any length: where a number has more digits, its text has 64

some_tens : (places : ℕ) → 0 < 10 ^ places
some_tens zero = omega arith
some_tens (suc places) = omega (arith, pow-suc 10 places, some_tens places)

onto_long : (places room number : ℕ) (after : List ℕ) → places < room → 10 ^ places ≤ number
    → places + 1 + length after ≤ length (digits_onto room 10 false number after)
onto_long places zero number after fits long = absurd (omega (arith, fits))
onto_long zero (suc room) number after fits long =
    let digit : ℕ = digit_glyph false (number % 10) in
    let more : suc (length after) ≤ length (digits_onto room 10 false (number / 10) (digit ∷ after)) = onto_keeps room (number / 10) (digit ∷ after) in
    cond_both (number / 10 == 0) (digit ∷ after) (digits_onto room 10 false (number / 10) (digit ∷ after)) (λ text. 0 + 1 + length after ≤ length text)
    (λ is. omega arith) (λ is. omega (arith, more))
onto_long (suc places) (suc room) number after fits long =
    let digit : ℕ = digit_glyph false (number % 10) in
    let front : 10 ^ places ≤ number / 10 = tenth places number long in
    let some : 0 < 10 ^ places = some_tens places in
    let more : places + 1 + suc (length after) ≤ length (digits_onto room 10 false (number / 10) (digit ∷ after)) = onto_long places room (number / 10) (digit ∷ after) (omega (arith, fits)) front in
    cond_both (number / 10 == 0) (digit ∷ after) (digits_onto room 10 false (number / 10) (digit ∷ after)) (λ text. suc places + 1 + length after ≤ length text)
    (λ is. absurd (omega (arith, eqb-true (number / 10) 0 is, front, some))) (λ is. omega (arith, more))
  where
    tenth : (places number : ℕ) → 10 ^ suc places ≤ number → 10 ^ places ≤ number / 10
    tenth places number long = omega (arith, long, pow-suc 10 places)

pub long_text : (number : ℕ) → 10 ^ 64 ≤ number → 22 ≤ length (decimal number)
unfolding digits
long_text number long = onto_long 21 64 number [] (omega arith) (omega (arith, long))

-- ---- a number that is near another: it is that one, or small; the other may be of any length

-- the greatest magnitude of a bound that comes of a guard
abbrev pub SMALL : ℕ
SMALL = 2 ^ 65

abbrev pub IsNear : ℤ → ℤ → Type 0
IsNear start number = (number ≡ start) ⊎ (is_within SMALL number ≡ true)

small_magnitude : (number : ℕ) → is_within SMALL (pos number) ≡ true → number ≤ 2 ^ 65
small_magnitude number small = grind (arith, ints)

small_opposite : (number : ℕ) → is_within SMALL (negsuc number) ≡ true → suc number ≤ 2 ^ 65
small_opposite number small = grind (arith, ints)

small_short : (number : ℤ) → is_within SMALL number ≡ true → IsShortInt number
small_short (pos number) small = omega (arith, small_magnitude number small)
small_short (negsuc number) small = omega (arith, small_opposite number small)

small_text : (number : ℤ) → is_within SMALL number ≡ true → length (signed_decimal number) ≤ 21
small_text (pos number) small =
    let most = small_magnitude number small in omega (arith, length-decimal-le_wide 20 number (omega arith) (omega (arith, most)) (omega (arith, most)))
small_text (negsuc number) small =
    let most = small_opposite number small in omega (arith, length-decimal-le_wide 20 (suc number) (omega arith) (omega (arith, most)) (omega (arith, most)))

short_or_long : (number : ℤ) → IsShortInt number ⊎ (22 ≤ length (signed_decimal number))
short_or_long (pos number) = elim (cases_lt number (10 ^ 64)) [ inl short ↦ inl short | inr long ↦ inr (long_text number long) ]
short_or_long (negsuc number) = elim (cases_lt (suc number) (10 ^ 64)) [ inl short ↦ inl short | inr long ↦ inr (omega (arith, long_text (suc number) long)) ]

start_or_small : (start number : ℤ) → is_within SMALL number ≡ true
    → signed_decimal start ≡ signed_decimal number → start ≡ number
start_or_small start number small same = elim (short_or_long start) [
  | inl short ↦ same_signed start number short (small_short number small) same
  | inr long ↦ absurd (omega (arith, long, small_text number small, ap {B = ℕ} length same))
]

-- two numbers near the same one are told apart by their texts
pub same_near : (start number other : ℤ) → IsNear start number → IsNear start other
    → signed_decimal number ≡ signed_decimal other → number ≡ other
same_near start number other (inl is) (inl also) same = is ∙ sym also
same_near start number other (inl is) (inr small) same = is ∙ start_or_small start other small (ap signed_decimal (sym is) ∙ same)
same_near start number other (inr small) (inl is) same = sym (start_or_small start number small (ap signed_decimal (sym is) ∙ sym same)) ∙ sym is
same_near start number other (inr small) (inr also) same = same_signed number other (small_short number small) (small_short other also) same
