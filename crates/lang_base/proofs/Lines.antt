-- Lines: texts that end in their only line feed, which is byte 10.
use Rattle.std.proofs.Common.{◌≡◌, ℕ, Bool, true, false, ◌&&◌, List, [], ◌∷◌, ◌++◌, map, codes, ap, sym, refl, ◌∙◌, append_assoc, arith, decimal, ℤ}
use Rattle.std.specs.Prelude.{All}
use Rattle.std.specs.List.{list_all, flat_map}
use Rattle.std.specs.Fmt.{signed_decimal}
use Rattle.std.proofs.lemmas.List.Elements.{All-head, All-tail}
use Rattle.lang_base.specs.Identifiers.{is_digit, is_word_byte, IsIdentifier}
use Rattle.lang_base.specs.Lines.{is_in_line}
use Rattle.lang_base.specs.Texts.{joined}
use Rattle.lang_base.proofs.Cuts.{same_rest, cut, all_append, all_weaker}
use Rattle.lang_base.proofs.Numerals.{is_figure, decimal_digits, signed_figures}
use Rattle.lang_base.proofs.Words.{name_words}

abbrev pub HasNoLineFeed : List ℕ → Type 0
HasNoLineFeed text = list_all is_in_line text ≡ true

pub record IsLine (text : List ℕ) : Type 0 where
  pub body : List ℕ
  pub plain : HasNoLineFeed body
  pub is : text ≡ body ++ codes "\n"

-- a text that begins with two lines begins with one
pub same_line : (text other rest others : List ℕ) → IsLine text → IsLine other
    → text ++ rest ≡ other ++ others → (text ≡ other) × (rest ≡ others)
same_line text other rest others line also same =
    let begun : line.body ++ (codes "\n" ++ rest) ≡ text ++ rest = sym (append_assoc line.body (codes "\n") rest) ∙ ap (λ one. one ++ rest) (sym line.is) in
    let ends : other ++ others ≡ also.body ++ (codes "\n" ++ others) = ap (λ one. one ++ others) also.is ∙ append_assoc also.body (codes "\n") others in
    let parts = cut is_in_line line.body also.body (codes "\n" ++ rest) (codes "\n" ++ others) line.plain also.plain refl refl (begun ∙ same ∙ ends) in
    (line.is ∙ ap (λ body. body ++ codes "\n") parts.0 ∙ sym also.is, same_rest 10 10 rest others parts.1)

-- ---- texts with no line feed

word_in_line : (byte : ℕ) → is_word_byte byte ≡ true → is_in_line byte ≡ true
word_in_line byte is = grind arith

digit_in_line : (byte : ℕ) → is_digit byte ≡ true → is_in_line byte ≡ true
digit_in_line byte is = grind arith

figure_in_line : (byte : ℕ) → is_figure byte ≡ true → is_in_line byte ≡ true
figure_in_line byte is = grind arith

pub words_in_line : (text : List ℕ) → list_all is_word_byte text ≡ true → HasNoLineFeed text
words_in_line = all_weaker is_word_byte is_in_line word_in_line

pub decimal_in_line : (number : ℕ) → HasNoLineFeed (decimal number)
decimal_in_line number = all_weaker is_digit is_in_line digit_in_line (decimal number) (decimal_digits number)

pub signed_in_line : (number : ℤ) → HasNoLineFeed (signed_decimal number)
signed_in_line number = all_weaker is_figure is_in_line figure_in_line (signed_decimal number) (signed_figures number)

pub both_in_line : (front rest : List ℕ) → HasNoLineFeed front → HasNoLineFeed rest
    → HasNoLineFeed (front ++ rest)
both_in_line = all_append is_in_line

pub each_in_line : {X : Type 0} (text : X → List ℕ) → ((x : X) → HasNoLineFeed (text x)) →
    (xs : List X) → HasNoLineFeed (flat_map text xs)
each_in_line text each [] = refl
each_in_line text each (x ∷ xs) = both_in_line (text x) (flat_map text xs) (each x) (each_in_line text each xs)

-- texts with a separator between them
pub joined_in_line : {X : Type 0} (separator : List ℕ) (text : X → List ℕ) → HasNoLineFeed separator
    → ((x : X) → HasNoLineFeed (text x)) → (xs : List X)
    → HasNoLineFeed (joined separator (map text xs))
joined_in_line {X} separator text plain each [] = refl
joined_in_line {X} separator text plain each (x ∷ xs) = both_in_line (text x) _ (each x) (later xs)
  where
    later : (xs : List X) → HasNoLineFeed (flat_map (λ one. separator ++ one) (map text xs))
    later [] = refl
    later (y ∷ ys) = both_in_line (separator ++ text y) _ (both_in_line separator (text y) plain (each y)) (later ys)

-- each of some identifiers
pub names_in_line : (names : List (List ℕ)) → All IsIdentifier names
    → list_all (list_all is_in_line) names ≡ true
names_in_line [] are = refl
names_in_line (name ∷ names) are =
    both_true (words_in_line name (name_words name (All-head IsIdentifier name names are))) (names_in_line names (All-tail IsIdentifier name names are))
  where
    both_true : list_all is_in_line name ≡ true → list_all (list_all is_in_line) names ≡ true
        → list_all (list_all is_in_line) (name ∷ names) ≡ true
    both_true one more = ap (λ test. test && list_all (list_all is_in_line) names) one ∙ more
