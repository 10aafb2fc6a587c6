-- What a byte begins, as the code sorts it and as the definitions say it.
use Rattle.std.proofs.Common.{◌≡◌, ℕ, Bool, true, false, cond, refl, arith}
use Rattle.lang_tokens.specs.declared.piece.Class.{Class}
use Rattle.lang_tokens.specs.declared.piece.Class.TheVariants as classes
use Rattle.lang_tokens.specs.Spelling.{is_letter, is_digit, is_blank}
use Rattle.lang_tokens.specs.inner.Pieces.{class_of}

abbrev sorted : Bool → Bool → Bool → Class
sorted letter digit blank = cond letter classes.Letter (cond digit classes.Digit (cond blank classes.Blank classes.Other))

pub letter_is : (b : ℕ) → class_of b ≡ classes.Letter → is_letter b ≡ true
letter_is b e = by_tests (is_letter b) (is_digit b) (is_blank b) e
  where
    by_tests : (l d s : Bool) → sorted l d s ≡ classes.Letter → l ≡ true
    by_tests true d s e = refl
    by_tests false true s e = absurd cc
    by_tests false false true e = absurd cc
    by_tests false false false e = absurd cc

pub digit_is : (b : ℕ) → class_of b ≡ classes.Digit → is_digit b ≡ true
digit_is b e = by_tests (is_letter b) (is_digit b) (is_blank b) e
  where
    by_tests : (l d s : Bool) → sorted l d s ≡ classes.Digit → d ≡ true
    by_tests true d s e = absurd cc
    by_tests false true s e = refl
    by_tests false false true e = absurd cc
    by_tests false false false e = absurd cc

pub blank_is : (b : ℕ) → class_of b ≡ classes.Blank → is_blank b ≡ true
blank_is b e = by_tests (is_letter b) (is_digit b) (is_blank b) e
  where
    by_tests : (l d s : Bool) → sorted l d s ≡ classes.Blank → s ≡ true
    by_tests true d s e = absurd cc
    by_tests false true s e = absurd cc
    by_tests false false true e = refl
    by_tests false false false e = absurd cc

no_letter_is_digit : (b : ℕ) → is_digit b ≡ true → is_letter b ≡ false
no_letter_is_digit b e = grind arith

no_blank_is_letter : (b : ℕ) → is_blank b ≡ true → is_letter b ≡ false
no_blank_is_letter b e = grind arith

no_blank_is_digit : (b : ℕ) → is_blank b ≡ true → is_digit b ≡ false
no_blank_is_digit b e = grind arith

pub letter_class : (b : ℕ) → is_letter b ≡ true → class_of b ≡ classes.Letter
letter_class b e = rw e refl

pub digit_class : (b : ℕ) → is_digit b ≡ true → class_of b ≡ classes.Digit
digit_class b e = rw (no_letter_is_digit b e, e) refl

pub blank_class : (b : ℕ) → is_blank b ≡ true → class_of b ≡ classes.Blank
blank_class b e = rw (no_blank_is_letter b e, no_blank_is_digit b e, e) refl
