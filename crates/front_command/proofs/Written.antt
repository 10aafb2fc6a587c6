-- The numbers that words are.
use Rattle.std.proofs.Common.{◌≡◌, ℕ, ◌<◌, ◌≤◌, Bool, true, false, ◌&&◌, List, length, Option, Some, None, cond, All, nat_le, nat_lt, refl, ap, sym, ◌∙◌, true≢false, arith}
use Rattle.std.specs.List.{list_all}
use Rattle.std.proofs.lemmas.Bool.{leb-true, le-leb, ltb-true}
use Rattle.std.proofs.lemmas.List.Sums.{AllPass-from_list_all, list_all-from_AllPass}
use Rattle.std.proofs.lemmas.Option.{none-some, cond_some}
use Rattle.lang_base.specs.Identifiers.{is_digit}
use Rattle.lang_tokens.specs.Spelling.{IsDecimal}
use Rattle.lang_tokens.specs.Words.{decimal_value}
use Rattle.front_command.specs.CommandLine.{IsNumber, MOST_DIGITS}
use Rattle.front_command.specs.inner.Asked.{is_written, within, number_if}

-- ---- tests

both_true : (a b : Bool) → (a && b) ≡ true → (a ≡ true) × (b ≡ true)
both_true true b e = (refl, e)
both_true false b e = absurd (true≢false (sym e))

-- where a choice gives something, it gave it in one of two ways
pub chosen : {A P : Type 0} (b : Bool) (x y : Option A) (z : A) → cond b x y ≡ Some z → (b ≡ true → x ≡ Some z → P) → (b ≡ false → y ≡ Some z → P) → P
chosen true x y z e first second = first refl e
chosen false x y z e first second = second refl e

pub cond_first : {A : Type 0} (b : Bool) (x : Option A) (z : A) → cond b x None ≡ Some z → (b ≡ true) × (x ≡ Some z)
cond_first true x z e = (refl, e)
cond_first false x z e = absurd (none-some z e)

pub cond_second : {A : Type 0} (b : Bool) (x : Option A) (z : A) → cond b None x ≡ Some z → (b ≡ false) × (x ≡ Some z)
cond_second true x z e = absurd (none-some z e)
cond_second false x z e = (refl, e)

-- ---- digits

record IsWritten (word : List ℕ) : Type 0 where
  pub some : 0 < length word
  pub short : length word ≤ MOST_DIGITS
  pub digits : All (λ b. is_digit b ≡ true) word

written_is : (word : List ℕ) → is_written word ≡ true → IsWritten word
written_is word e =
    let (some, more) = both_true (nat_lt 0 (length word)) (nat_le (length word) MOST_DIGITS && list_all is_digit word) e in
    let (short, digits) = both_true (nat_le (length word) MOST_DIGITS) (list_all is_digit word) more in
    record {
      some = ltb-true 0 (length word) some;
      short = leb-true (length word) MOST_DIGITS short;
      digits = AllPass-from_list_all is_digit word digits;
    }

-- as many digits are a number that a file may write, too
pub written_decimal : (word : List ℕ) → is_written word ≡ true → IsDecimal word
written_decimal word e =
    let is = written_is word e in
    record {
      some = is.some;
      digits = is.digits;
      short = omega (arith, is.short);
    }

written_found : (word : List ℕ) (most number : ℕ) → IsNumber most word number → is_written word ≡ true
written_found word most number is =
    let some : nat_lt 0 (length word) ≡ true = le-leb 1 (length word) is.some in
    let short : nat_le (length word) MOST_DIGITS ≡ true = le-leb (length word) MOST_DIGITS is.short in
    let digits : list_all is_digit word ≡ true = list_all-from_AllPass is_digit word is.digits in
    λ i. some i && (short i && digits i)

-- ---- numbers

pub number_found : (most : ℕ) (word : List ℕ) (number : ℕ) → IsNumber most word number → number_if most word ≡ Some number
number_found most word number is =
    let fits : nat_le number most ≡ true = le-leb number most is.within in
    ap (λ (b : Bool). cond b (within most (decimal_value word)) None) (written_found word most number is)
    ∙ ap (within most) is.value
    ∙ ap (λ (b : Bool). cond b (Some number) None) fits

pub number_is : (most : ℕ) (word : List ℕ) (number : ℕ) → number_if most word ≡ Some number → IsNumber most word number
number_is most word number e =
    let (written, found) = cond_first (is_written word) (within most (decimal_value word)) number e in
    let (fits, value) = cond_some (nat_le (decimal_value word) most) (decimal_value word) number found in
    let is = written_is word written in
    record {
      some = is.some;
      short = is.short;
      digits = is.digits;
      value = value;
      within = leb-true number most (ap (λ n. nat_le n most) (sym value) ∙ fits);
    }
