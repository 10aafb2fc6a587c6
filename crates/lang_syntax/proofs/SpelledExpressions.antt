-- The canonical text of an expression is cut into pieces that say its canonical words.
use Rattle.std.proofs.Common.{◌≡◌, ℕ, ◌≤◌, Bool, true, false, eqb, List, [], ◌∷◌, ◌++◌, map, Some, refl, sym, subst, append_assoc, arith}
use Rattle.std.specs.Prelude.{codes, if◌then◌else◌, nat_lt, decimal}
use Rattle.std.specs.List.{flat_map}
use Rattle.std.proofs.lemmas.Bool.{ltb-false}
use Rattle.lang_tokens.specs.declared.token.TokenKind.{TokenKind}
use Rattle.lang_tokens.specs.declared.token.TokenKind.TheVariants as kinds
use Rattle.lang_tokens.specs.declared.piece.Shape.TheVariants as coded
use Rattle.lang_tokens.specs.Shapes as shapes
use Rattle.lang_tree.specs.declared.tree.Op.{Op}
use Rattle.lang_tree.specs.declared.tree.Op.TheVariants as ops
use Rattle.lang_tree.specs.declared.tree.Addend.{Addend, roll-Addend}
use Rattle.lang_tree.specs.declared.tree.Factor.{Factor, roll-Factor}
use Rattle.lang_tree.specs.declared.tree.Expr.{Expr, roll-Expr}
use Rattle.lang_tree.specs.declared.tree.Expr.TheOpen.{Expr-F, Addend-F, Factor-F, Number, Truth, Named, Minus, Not, Product, Sum, Compare, Both, Either}
use Rattle.lang_tree.specs.declared.tree.Expr.TheFolds.{fold-roll-Expr, fold-roll-Addend, fold-roll-Factor, map-Expr, ind-Expr}
use Rattle.lang_tokens.specs.Spelling.{is_letter, is_digit, IsShape}
use Rattle.lang_tokens.proofs.Identifiers.{name_piece}
use Rattle.lang_tokens.specs.inner.Pieces.{other_at, longest_at, limited}
use Rattle.lang_tokens.specs.Words.{Word, mark}
use Rattle.lang_syntax.specs.Grammar.{truth_word, op_sign, sum_sign}
use Rattle.lang_printer.specs.Canonical.{Printed, printed, printed_step, expression_text, at_level, parts_at, joined, truth_text, addend_sign, addend_text, factor_text, op_text}
use Rattle.lang_printer.specs.Printing.{later_factor, later_addend}
use Rattle.lang_syntax.proofs.CanonicalWords.{Spelled, spelled, spelled_step, words_at, in_parentheses, joined_words, addend_words, factor_words, expression_words}
use Rattle.lang_syntax.proofs.CanonicalPieces.{Says, ◌▷◌, ◌▶◌, less, asking, says_nothing, says_same, reads_piece, begin_paren, end_paren, minus, between_blanks, keyword, name, number, written}
use Rattle.lang_syntax.proofs.Printable.{ArePrintable, printable_front, printable_back, addend_tail, factor_tail, expression_layer}

-- ---- what a text begins with

-- no `=`, which would make one sign with a `!` before it
pub record Begins (text : List ℕ) : Type 0 where
  pub first : ℕ
  pub more : List ℕ
  pub no_equal : eqb 61 first ≡ false
  pub is : text ≡ first ∷ more

no_equal_is_letter : (b : ℕ) → is_letter b ≡ true → eqb 61 b ≡ false
no_equal_is_letter b letter = grind arith

no_equal_is_digit : (b : ℕ) → is_digit b ≡ true → eqb 61 b ≡ false
no_equal_is_digit b digit = grind arith

word_begins : (text : List ℕ) → IsShape shapes.Word text → Begins text
word_begins text (first, more, letter, all, is) = record { first = first; more = more; no_equal = no_equal_is_letter first letter; is = is }

number_begins : (text : List ℕ) → IsShape shapes.Number text → Begins text
number_begins text (first, more, digit, all, is) = record { first = first; more = more; no_equal = no_equal_is_digit first digit; is = is }

not_at : (text : List ℕ) (rest : List ℕ) → Begins text → limited (longest_at (33 ∷ (text ++ rest))) ≡ Some (coded.Sign kinds.Not, 1)
unfolding longest_at other_at
not_at text rest b = subst (λ (t : List ℕ). limited (longest_at (33 ∷ (t ++ rest))) ≡ Some (coded.Sign kinds.Not, 1)) (sym b.is) (let none = b.no_equal in rw none refl)

not_before : (text : List ℕ) (ws : List Word) → Begins text → Says true false text ws → Says true true (33 ∷ text) (mark kinds.Not 0 ∷ ws)
not_before text ws b s = record { before = λ rest more r. (refl, reads_piece (33 ∷ []) (text ++ rest) (coded.Sign kinds.Not) (ws ++ more) (not_at text rest b) (s.before rest more r)) }

-- ---- an expression

-- the printed text says the words, where these can be printed
pub record Fit (text : Printed) (words : Spelled) : Type 0 where
  pub level : text.level ≡ words.level
  pub begins : ArePrintable words.words → 6 ≤ words.level → Begins text.text
  pub says : ArePrintable words.words → Says true false text.text words.words

in_level : (wrapped : Bool) (p : Printed) (s : Spelled) → Fit p s → ArePrintable (if wrapped then in_parentheses s.words else s.words)
    → Says true false (if wrapped then codes "(" ++ p.text ++ codes ")" else p.text) (if wrapped then in_parentheses s.words else s.words)
in_level true p s fit ok = less (begin_paren ▷ fit.says (printable_front s.words (mark kinds.CloseParen 0 ∷ []) ok.1) ▶ asking end_paren)
in_level false p s fit ok = fit.says ok

pub part : (asked : ℕ) (p : Printed) (s : Spelled) → Fit p s → ArePrintable (words_at asked s) → Says true false (at_level asked p) (words_at asked s)
part asked p s fit ok = subst (λ (n : ℕ). Says true false (if nat_lt n asked then codes "(" ++ p.text ++ codes ")" else p.text) (words_at asked s)) (sym fit.level) (in_level (nat_lt s.level asked) p s fit ok)

part_begins : (p : Printed) (s : Spelled) → Fit p s → ArePrintable (words_at 6 s) → Begins (at_level 6 p)
part_begins p s fit ok = subst (λ (n : ℕ). Begins (if nat_lt n 6 then codes "(" ++ p.text ++ codes ")" else p.text)) (sym fit.level) (by_test (nat_lt s.level 6) refl ok)
  where
    by_test : (wrapped : Bool) → nat_lt s.level 6 ≡ wrapped → ArePrintable (if wrapped then in_parentheses s.words else s.words) → Begins (if wrapped then codes "(" ++ p.text ++ codes ")" else p.text)
    by_test true h ok = record { first = 40; more = p.text ++ codes ")"; no_equal = refl; is = refl }
    by_test false h ok = fit.begins ok (ltb-false s.level 6 h)

-- ---- signs between parts

equal_sign : (op : Op) → Says false true (op_text op) (mark (op_sign op) 0 ∷ [])
unfolding longest_at other_at
equal_sign ops.Equal = between_blanks (codes "==") kinds.Equal (λ rest. refl)
equal_sign ops.Differs = between_blanks (codes "!=") kinds.Differs (λ rest. refl)
equal_sign ops.Less = between_blanks (codes "<") kinds.Less (λ rest. refl)
equal_sign ops.AtMost = between_blanks (codes "<=") kinds.AtMost (λ rest. refl)
equal_sign ops.More = between_blanks (codes ">") kinds.More (λ rest. refl)
equal_sign ops.AtLeast = between_blanks (codes ">=") kinds.AtLeast (λ rest. refl)

added : (minus : Bool) → Says false true (addend_sign minus) (mark (sum_sign minus) 0 ∷ [])
unfolding longest_at other_at
added true = between_blanks (codes "-") kinds.Minus (λ rest. refl)
added false = between_blanks (codes "+") kinds.Plus (λ rest. refl)

times : Says false true (codes " * ") (mark kinds.Star 0 ∷ [])
unfolding longest_at other_at
times = between_blanks (codes "*") kinds.Star (λ rest. refl)

and_sign : Says false true (codes " && ") (mark kinds.And 0 ∷ [])
unfolding longest_at other_at
and_sign = between_blanks (codes "&&") kinds.And (λ rest. refl)

or_sign : Says false true (codes " || ") (mark kinds.Or 0 ∷ [])
unfolding longest_at other_at
or_sign = between_blanks (codes "||") kinds.Or (λ rest. refl)

pub truth : (value : Bool) → Says true false (truth_text value) (mark (truth_word value) 0 ∷ [])
truth true = keyword 116 (codes "rue") refl refl (omega arith)
truth false = keyword 102 (codes "alse") refl refl (omega arith)

truth_begins : (value : Bool) → Begins (truth_text value)
truth_begins true = record { first = 116; more = codes "rue"; no_equal = refl; is = refl }
truth_begins false = record { first = 102; more = codes "alse"; no_equal = refl; is = refl }

-- ---- parts one after the other

-- a text that begins with a blank, or is none
abbrev pub Tail : List ℕ → List Word → Type 0
Tail text ws = ArePrintable ws → Says true true text ws

tails : {X : Type 0} (text : X → List ℕ) (ws : X → List Word) (xs : List ((x : X) × Tail (text x) (ws x)))
    → Tail (flat_map (λ (t : List ℕ). t) (map text (map (λ e. e.0) xs))) (flat_map (λ (l : List Word). l) (map ws (map (λ e. e.0) xs)))
tails text ws [] ok = says_nothing true
tails text ws (x ∷ xs) ok =
    let rest = flat_map (λ (l : List Word). l) (map ws (map (λ e. e.0) xs)) in
    x.1 (printable_front (ws x.0) rest ok) ▶ tails text ws xs (printable_back (ws x.0) rest ok)

abbrev ExprFits : Expr → Type 0
ExprFits e = Fit (printed e) (spelled e)

abbrev AddendFits : Addend → Type 0
AddendFits addend = Tail (later_addend addend) (addend_tail addend)

abbrev FactorFits : Factor → Type 0
FactorFits factor = Tail (later_factor factor) (factor_tail factor)

abbrev Part : Type 0
Part = (e : Expr) × ExprFits e

abbrev parts : List Part → List Expr
parts = map (λ e. e.0)

later_parts : (separator : List ℕ) (kind : TokenKind) (asked : ℕ) → Says false true separator (mark kind 0 ∷ []) → (xs : List Part)
    → Tail (flat_map (λ text. separator ++ text) (parts_at asked (map printed (parts xs)))) (flat_map (λ p. mark kind 0 ∷ words_at asked p) (map spelled (parts xs)))
later_parts separator kind asked sign [] ok = says_nothing true
later_parts separator kind asked sign (x ∷ xs) ok =
    let here = words_at asked (spelled x.0) in
    let rest = flat_map (λ p. mark kind 0 ∷ words_at asked p) (map spelled (parts xs)) in
    sign ▷ part asked (printed x.0) (spelled x.0) x.1 (printable_front here rest ok.1) ▶ later_parts separator kind asked sign xs (printable_back here rest ok.1)

all_parts : (separator : List ℕ) (kind : TokenKind) (asked : ℕ) → Says false true separator (mark kind 0 ∷ []) → (xs : List Part)
    → ArePrintable (joined_words (mark kind 0) asked (map spelled (parts xs))) → Says true false (joined separator (parts_at asked (map printed (parts xs)))) (joined_words (mark kind 0) asked (map spelled (parts xs)))
all_parts separator kind asked sign [] ok = less (says_nothing true)
all_parts separator kind asked sign (x ∷ xs) ok =
    let here = words_at asked (spelled x.0) in
    let rest = flat_map (λ p. mark kind 0 ∷ words_at asked p) (map spelled (parts xs)) in
    part asked (printed x.0) (spelled x.0) x.1 (printable_front here rest ok) ▶ later_parts separator kind asked sign xs (printable_back here rest ok)

-- ---- one layer

abbrev Layer : Type 0
Layer = Expr-F Part ((a : Addend) × AddendFits a) ((f : Factor) × FactorFits f)

abbrev bare_layer : Layer → Expr-F Expr Addend Factor
bare_layer = map-Expr Part ((a : Addend) × AddendFits a) ((f : Factor) × FactorFits f) Expr Addend Factor (λ e. e.0) (λ e. e.0) (λ e. e.0)

abbrev printed_layer : Expr-F Expr Addend Factor → Printed
printed_layer x = printed_step (map-Expr Expr Addend Factor Printed (List ℕ) (List ℕ) printed later_addend later_factor x)

layer_fits : (y : Layer) → Fit (printed_layer (bare_layer y)) (expression_layer (bare_layer y))
layer_fits (Number at value) = record {
  level = refl;
  begins = λ ok high. number_begins (decimal value) (written value ok.0).spelled;
  says = λ ok. number value ok.0;
}
layer_fits (Truth at value) = record { level = refl; begins = λ ok high. truth_begins value; says = λ ok. truth value }
layer_fits (Named at text) = record { level = refl; begins = λ ok high. word_begins text (name_piece text ok.0).spelled; says = λ ok. name text ok.0 }
layer_fits (Minus at of) = record {
  level = refl;
  begins = λ ok high. record { first = 45; more = at_level 6 (printed of.0); no_equal = refl; is = refl };
  says = λ ok. less (minus ▷ part 6 (printed of.0) (spelled of.0) of.1 ok.1);
}
layer_fits (Not at of) = record {
  level = refl;
  begins = λ ok high. record { first = 33; more = at_level 6 (printed of.0); no_equal = refl; is = refl };
  says = λ ok. less (not_before (at_level 6 (printed of.0)) (words_at 6 (spelled of.0)) (part_begins (printed of.0) (spelled of.0) of.1 ok.1) (part 6 (printed of.0) (spelled of.0) of.1 ok.1));
}
layer_fits (Product first rest) = record {
  level = refl;
  begins = λ ok high. absurd (omega arith);
  says = λ ok.
      let here = words_at 6 (spelled first.0) in
      let later = flat_map (λ (l : List Word). l) (map factor_tail (map (λ e. e.0) rest)) in
      part 6 (printed first.0) (spelled first.0) first.1 (printable_front here later ok) ▶ tails later_factor factor_tail rest (printable_back here later ok);
}
layer_fits (Sum first rest) = record {
  level = refl;
  begins = λ ok high. absurd (omega arith);
  says = λ ok.
      let here = words_at 5 (spelled first.0) in
      let later = flat_map (λ (l : List Word). l) (map addend_tail (map (λ e. e.0) rest)) in
      part 5 (printed first.0) (spelled first.0) first.1 (printable_front here later ok) ▶ tails later_addend addend_tail rest (printable_back here later ok);
}
layer_fits (Compare op left right) = record {
  level = refl;
  begins = λ ok high. absurd (omega arith);
  says = λ ok.
      let here = words_at 4 (spelled left.0) in
      let there = mark (op_sign op) 0 ∷ words_at 4 (spelled right.0) in
      let whole = part 4 (printed left.0) (spelled left.0) left.1 (printable_front here there ok) ▶ equal_sign op ▷ part 4 (printed right.0) (spelled right.0) right.1 (printable_back here there ok).1 in
      says_same refl (append_assoc here (mark (op_sign op) 0 ∷ []) (words_at 4 (spelled right.0))) whole;
}
layer_fits (Both es) = record { level = refl; begins = λ ok high. absurd (omega arith); says = λ ok. all_parts (codes " && ") kinds.And 3 and_sign es ok }
layer_fits (Either es) = record { level = refl; begins = λ ok high. absurd (omega arith); says = λ ok. all_parts (codes " || ") kinds.Or 2 or_sign es ok }

-- ---- every layer

roll_fits : (x : Expr-F Expr Addend Factor) → Fit (printed_layer x) (expression_layer x) → ExprFits (roll-Expr x)
roll_fits x h =
    subst (λ (p : Printed). Fit p (spelled (roll-Expr x))) (sym (fold-roll-Expr Printed (List ℕ) (List ℕ) printed_step addend_text factor_text x))
    (subst (λ (s : Spelled). Fit (printed_layer x) s) (sym (fold-roll-Expr Spelled (List Word) (List Word) spelled_step addend_words factor_words x)) h)

addend_fits : (x : Addend-F Expr Addend Factor) → ExprFits x.of → AddendFits (roll-Addend x)
addend_fits x fit =
    subst (λ (t : List ℕ). Tail t (addend_tail (roll-Addend x))) (sym (fold-roll-Addend Printed (List ℕ) (List ℕ) printed_step addend_text factor_text x))
    (subst (λ (l : List Word). Tail (addend_sign x.minus ++ at_level 5 (printed x.of)) l) (sym (fold-roll-Addend Spelled (List Word) (List Word) spelled_step addend_words factor_words x))
    (λ ok. added x.minus ▷ part 5 (printed x.of) (spelled x.of) fit ok.1))

factor_fits : (x : Factor-F Expr Addend Factor) → ExprFits x.of → FactorFits (roll-Factor x)
factor_fits x fit =
    subst (λ (t : List ℕ). Tail t (factor_tail (roll-Factor x))) (sym (fold-roll-Factor Printed (List ℕ) (List ℕ) printed_step addend_text factor_text x))
    (subst (λ (l : List Word). Tail (codes " * " ++ at_level 6 (printed x.of)) l) (sym (fold-roll-Factor Spelled (List Word) (List Word) spelled_step addend_words factor_words x))
    (λ ok. times ▷ part 6 (printed x.of) (spelled x.of) fit ok.1))

fits : (e : Expr) → ExprFits e
fits =
    ind-Expr ExprFits AddendFits FactorFits
    (λ x y is. subst (λ (z : Expr-F Expr Addend Factor). ExprFits (roll-Expr z)) is (roll_fits (bare_layer y) (layer_fits y)))
    (λ x y is. subst (λ (z : Addend-F Expr Addend Factor). AddendFits (roll-Addend z)) is (addend_fits (record { minus = y.minus; of = y.of.0 }) y.of.1))
    (λ x y is. subst (λ (z : Factor-F Expr Addend Factor). FactorFits (roll-Factor z)) is (factor_fits (record { at = y.at; of = y.of.0 }) y.of.1))

-- An expression's canonical text says its canonical words, before anything that ends a word.
pub expression : (e : Expr) → ArePrintable (expression_words e) → Says true false (expression_text e) (expression_words e)
expression e = (fits e).says
