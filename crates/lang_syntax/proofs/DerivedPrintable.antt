-- A derived tree can be printed and read again: its names and numbers are those of tokens.
use Rattle.std.proofs.Common.{◌≡◌, ℕ, zero, suc, ◌+◌, ◌*◌, ◌-◌, ◌^◌, ◌<◌, ◌≤◌, inl, inr, Bool, true, false, List, [], ◌∷◌, ◌++◌, length, map, All, Option, Some, None, refl, sym, subst, arith}
use Rattle.std.specs.Prelude.{if◌then◌else◌, nat_lt}
use Rattle.std.specs.List.{flat_map, fold}
use Rattle.std.proofs.Math.Nat.{pow-suc, pow-le-pow_right}
use Rattle.std.proofs.lemmas.List.Elements.{All-head, All-tail}
use Rattle.std.proofs.lemmas.List.Folds.{flat_map-map}
use Rattle.lang_base.specs.Limits.{LEVELS}
use Rattle.lang_tokens.specs.declared.token.TokenKind.{TokenKind}
use Rattle.lang_tokens.specs.declared.token.TokenKind.TheVariants as kinds
use Rattle.lang_tokens.specs.declared.token.Token.{Token}
use Rattle.lang_tree.specs.declared.tree.Lit.{Lit}
use Rattle.lang_tree.specs.declared.tree.LimitTree.{LimitTree}
use Rattle.lang_tree.specs.declared.tree.Decl.{Decl}
use Rattle.lang_tree.specs.declared.tree.Decl.TheVariants as decls
use Rattle.lang_tree.specs.declared.tree.InputTree.{InputTree}
use Rattle.lang_tree.specs.declared.tree.Op.{Op}
use Rattle.lang_tree.specs.declared.tree.Addend.{Addend, out-Addend}
use Rattle.lang_tree.specs.declared.tree.Factor.{Factor, out-Factor}
use Rattle.lang_tree.specs.declared.tree.Expr.{Expr, roll-Expr}
use Rattle.lang_tree.specs.declared.tree.Expr.TheOpen.{Expr-F, Number, Truth, Named, Minus, Not, Product, Sum, Compare, Both, Either}
use Rattle.lang_tree.specs.declared.tree.Expr.TheVariants as exprs
use Rattle.lang_tree.specs.declared.tree.Expr.TheFolds.{fold-roll-Expr, fold_out-Addend, fold_out-Factor}
use Rattle.lang_tree.specs.declared.tree.StmtTree.{StmtTree, roll-StmtTree}
use Rattle.lang_tree.specs.declared.tree.StmtTree.TheOpen.{StmtTree-F, Set, If, Return}
use Rattle.lang_tree.specs.declared.tree.StmtTree.TheVariants as statements
use Rattle.lang_tree.specs.declared.tree.StmtTree.TheFolds.{fold-roll-StmtTree}
use Rattle.lang_tree.specs.declared.tree.BlockTree.{BlockTree}
use Rattle.lang_tree.specs.declared.tree.MethodTree.{MethodTree}
use Rattle.lang_tree.specs.declared.tree.MonitorTree.{MonitorTree}
use Rattle.lang_tokens.specs.Spelling.{is_digit, IsToken, IsDecimal, IsIdentifier, Spells, text_of}
use Rattle.lang_tokens.specs.Words.{Word, ident, mark, word_of, words, decimal_value}
use Rattle.lang_syntax.specs.Grammar.{Rule, ◌⌢◌, Each, IsIdent, IsSpelled, IsNumeral, IsMarkAt, IsMark, chain, IsFactor, IsProduct, IsAddend, IsSum, comparison, IsCompared, IsComparison, both, IsConjunction, either, IsDisjunction, Maybe, IsAtom, IsOpened, IsUnary, IsExpression, IsBlock, IsElse, IsSimple, IsIf, IsStatement, after_minus, IsLiteral, WHERE, PARAM, IsLimit, IsDeclaration, IsInput, AreInputs, IsLocal, IsGuarded, ASSERTS, IsAsserted, AreBlocks, IsMethod, IsMonitorFile, Derives, truth_word, op_sign, limit_sign, sum_sign, kind_word}
use Rattle.lang_syntax.proofs.CanonicalWords.{Spelled, spelled, spelled_step, words_at, in_parentheses, addend_words, factor_words, expression_words, else_words, statement_words, statement_words_step, literal_words, limit_words, declaration_words, input_words, inputs_words, local_words, opening_word, guarded_words, method_words}
use Rattle.lang_tokens.proofs.Digits.{digit_is}
use Rattle.lang_tokens.proofs.Numerals.{tokens_are}
use Rattle.lang_syntax.proofs.Printable.{IsPrintableWord, ArePrintable, IsPrintable, printable_front, printable_back, printable_both, addend_tail, factor_tail, expression_layer, statement_layer}

-- ---- tokens

-- one more digit at the end of a number
with_digit-below : (value digit i : ℕ) → value < 10 ^ i → is_digit digit ≡ true → value * 10 + (digit - 48) < 10 ^ suc i
with_digit-below value digit i below is =
    let d = digit_is digit is in
    rw pow-suc (omega (arith, d.0, d.1))

decimal_from : (digits : List ℕ) (value i : ℕ) → value < 10 ^ i → All (λ b. is_digit b ≡ true) digits → fold (λ value digit. value * 10 + (digit - 48)) value digits < 10 ^ (i + length digits)
decimal_from [] value i below all = let same : i + 0 ≡ i = omega arith in rw same below
decimal_from (d ∷ ds) value i below all =
    let same : i + suc (length ds) ≡ suc i + length ds = omega arith in
    let here = with_digit-below value d i below (All-head (λ b. is_digit b ≡ true) d ds all) in
    rw same (decimal_from ds (value * 10 + (d - 48)) (suc i) here (All-tail (λ b. is_digit b ≡ true) d ds all))

decimal_below : (text : List ℕ) → IsDecimal text → decimal_value text < 10 ^ 32
decimal_below text is =
    let ten : 0 < 10 = omega arith in
    let whole : decimal_value text < 10 ^ (0 + length text) = decimal_from text 0 0 (omega arith) is.digits in
    let grows : 10 ^ (0 + length text) ≤ 10 ^ 32 = let short = is.short in let len : 0 + length text ≤ 32 = omega arith in pow-le-pow_right ten len in
    omega arith

word_printable : (kind : TokenKind) (text : List ℕ) (at : ℕ) → (kind ≡ kinds.Ident → IsIdentifier text) → (kind ≡ kinds.Number → IsDecimal text) → IsPrintableWord (word_of kind text at)
word_printable kinds.Ident text at name number = name refl
word_printable kinds.Number text at name number = decimal_below text (number refl)
word_printable kind text at name number = tt

pub words_printable : (bytes : List ℕ) (tokens : List Token) → All (IsToken bytes) tokens → ArePrintable (words bytes tokens)
words_printable bytes [] each = tt
words_printable bytes (t ∷ ts) each =
    let here = All-head (IsToken bytes) t ts each in
    (word_printable t.kind (text_of bytes t) t.at here.identifier here.numeral, words_printable bytes ts (All-tail (IsToken bytes) t ts each))

-- ---- rules

-- from words of the rule that can be printed follows this
record Gives (Says : List Word → Type 0) (Fact : Type 0) : Type 0 where
  gives : (ws : List Word) → Says ws → ArePrintable ws → Fact

infixr 20 ◌&◌
◌&◌ : {First Second : List Word → Type 0} {A B : Type 0} → Gives First A → Gives Second B → Gives (First ⌢ Second) (A × B)
(first & second) = record {
  gives = λ ws r ok.
      let whole = subst ArePrintable r.4 ok in
      (first.gives r.0 r.2 (printable_front r.0 r.1 whole), second.gives r.1 r.3 (printable_back r.0 r.1 whole));
}

-- what follows anything
infixr 20 ◌&>◌
◌&>◌ : (First : List Word → Type 0) {Second : List Word → Type 0} {B : Type 0} → Gives Second B → Gives (First ⌢ Second) B
(First &> second) = record { gives = λ ws r ok. second.gives r.1 r.3 (printable_back r.0 r.1 (subst ArePrintable r.4 ok)) }

-- what stands before anything
infixl 21 ◌<&◌
◌<&◌ : {First : List Word → Type 0} {A : Type 0} → Gives First A → (Second : List Word → Type 0) → Gives (First ⌢ Second) A
(first <& Second) = record { gives = λ ws r ok. first.gives r.0 r.2 (printable_front r.0 r.1 (subst ArePrintable r.4 ok)) }

is_name : (name : List ℕ) (at : ℕ) → Gives (IsIdent name at) (IsIdentifier name)
is_name name at = record { gives = λ ws r ok. let whole = subst ArePrintable r ok in whole.0 }

is_spelled : (letters : List ℕ) → Gives (IsSpelled letters) (IsIdentifier letters)
is_spelled letters = record { gives = λ ws r ok. (is_name letters r.0).gives ws r.1 ok }

is_number : (value at : ℕ) → Gives (IsNumeral value at) (value < 10 ^ 32)
is_number value at = record { gives = λ ws r ok. let whole = subst ArePrintable r ok in whole.0 }

each : {Tree : Type 0} (IsTree : Tree → List Word → Type 0) (said : Tree → List Word) → ((tree : Tree) → Gives (IsTree tree) (ArePrintable (said tree))) → (trees : List Tree) → Gives (Each IsTree trees) (ArePrintable (flat_map said trees))
each IsTree said one [] = record { gives = λ ws r ok. tt }
each IsTree said one (tree ∷ trees) = record {
  gives = λ ws r ok.
      let got = (one tree & each IsTree said one trees).gives ws r ok in
      printable_both (said tree) (flat_map said trees) got.0 got.1;
}

-- ---- expressions

abbrev Good : Expr → Type 0
Good e = ArePrintable (expression_words e)

made : (x : Expr-F Expr Addend Factor) (e : Expr) → roll-Expr x ≡ e → ArePrintable (expression_layer x).words → Good e
made x e is ok = subst Good is (subst (λ (s : Spelled). ArePrintable s.words) (sym (fold-roll-Expr Spelled (List Word) (List Word) spelled_step addend_words factor_words x)) ok)

part : (asked : ℕ) (e : Expr) → Good e → ArePrintable (words_at asked (spelled e))
part asked e ok = by_test (nat_lt (spelled e).level asked)
  where
    by_test : (wrapped : Bool) → ArePrintable (if wrapped then in_parentheses (spelled e).words else (spelled e).words)
    by_test true = (tt, printable_both (spelled e).words (mark kinds.CloseParen 0 ∷ []) ok (tt, tt))
    by_test false = ok

abbrev Keeps : Rule Expr → Type 0
Keeps Says = (e : Expr) → Gives (Says e) (Good e)

factor : (Unary : Rule Expr) → Keeps Unary → (f : Factor) → Gives (IsFactor Unary f) (ArePrintable (factor_tail f))
factor Unary keeps f = record {
  gives = λ ws r ok.
      let got = (IsMarkAt kinds.Star (out-Factor f).at &> keeps (out-Factor f).of).gives ws r ok in
      subst ArePrintable (sym (fold_out-Factor Spelled (List Word) (List Word) spelled_step addend_words factor_words f)) (tt, part 6 (out-Factor f).of got);
}

product_node : (first : Expr) (rest : List Factor) → Good first → ArePrintable (flat_map factor_tail rest) → Good (chain exprs.Product first rest)
product_node first [] one more = one
product_node first (next ∷ rest) one more =
    made (Product first (next ∷ rest)) (exprs.Product first (next ∷ rest)) (exprs.rolls-Product first (next ∷ rest))
    (printable_both (words_at 6 (spelled first)) _ (part 6 first one) (subst ArePrintable (sym (flat_map-map (λ (l : List Word). l) factor_tail (next ∷ rest))) more))

product : (Unary : Rule Expr) → Keeps Unary → Keeps (IsProduct Unary)
product Unary keeps e = record {
  gives = λ ws r ok.
      let got = (keeps r.0 & each (IsFactor Unary) factor_tail (factor Unary keeps) r.1).gives ws r.3 ok in
      subst Good (sym r.2) (product_node r.0 r.1 got.0 got.1);
}

addend : (Unary : Rule Expr) → Keeps Unary → (a : Addend) → Gives (IsAddend Unary a) (ArePrintable (addend_tail a))
addend Unary keeps a = record {
  gives = λ ws r ok.
      let got = (IsMark (sum_sign (out-Addend a).minus) &> product Unary keeps (out-Addend a).of).gives ws r ok in
      subst ArePrintable (sym (fold_out-Addend Spelled (List Word) (List Word) spelled_step addend_words factor_words a)) (tt, part 5 (out-Addend a).of got);
}

sum_node : (first : Expr) (rest : List Addend) → Good first → ArePrintable (flat_map addend_tail rest) → Good (chain exprs.Sum first rest)
sum_node first [] one more = one
sum_node first (next ∷ rest) one more =
    made (Sum first (next ∷ rest)) (exprs.Sum first (next ∷ rest)) (exprs.rolls-Sum first (next ∷ rest))
    (printable_both (words_at 5 (spelled first)) _ (part 5 first one) (subst ArePrintable (sym (flat_map-map (λ (l : List Word). l) addend_tail (next ∷ rest))) more))

sums : (Unary : Rule Expr) → Keeps Unary → Keeps (IsSum Unary)
sums Unary keeps e = record {
  gives = λ ws r ok.
      let got = (product Unary keeps r.0 & each (IsAddend Unary) addend_tail (addend Unary keeps) r.1).gives ws r.3 ok in
      subst Good (sym r.2) (sum_node r.0 r.1 got.0 got.1);
}

compared : (Unary : Rule Expr) → Keeps Unary → Keeps (IsComparison Unary)
compared Unary keeps e = record { gives = λ ws r ok. subst Good (sym r.2) (by_rest r.0 r.1 ws r.3 ok) }
  where
    by_rest : (left : Expr) (rest : Option (Op × Expr)) (ws : List Word) → (IsSum Unary left ⌢ Maybe (IsCompared Unary) rest) ws → ArePrintable ws → Good (comparison left rest)
    by_rest left None ws r ok = (sums Unary keeps left <& Maybe (IsCompared Unary) None).gives ws r ok
    by_rest left (Some (op, right)) ws r ok =
        let got = (sums Unary keeps left & (IsMark (op_sign op) &> sums Unary keeps right)).gives ws r ok in
        made (Compare op left right) (exprs.Compare op left right) (exprs.rolls-Compare op left right)
        (printable_both (words_at 4 (spelled left)) (mark (op_sign op) 0 ∷ words_at 4 (spelled right)) (part 4 left got.0) (tt, part 4 right got.1))

abbrev sign_part : TokenKind → ℕ → Expr → List Word
sign_part kind asked e = mark kind 0 ∷ words_at asked (spelled e)

later : (kind : TokenKind) (asked : ℕ) (Part : Rule Expr) → Keeps Part → (rest : List Expr) → Gives (Each (λ p. IsMark kind ⌢ Part p) rest) (ArePrintable (flat_map (sign_part kind asked) rest))
later kind asked Part keeps rest = each (λ p. IsMark kind ⌢ Part p) (sign_part kind asked) (λ p. record { gives = λ ws r ok. (tt, part asked p ((IsMark kind &> keeps p).gives ws r ok)) }) rest

both_node : (first : Expr) (rest : List Expr) → Good first → ArePrintable (flat_map (sign_part kinds.And 3) rest) → Good (chain both first rest)
both_node first [] one more = one
both_node first (next ∷ rest) one more =
    made (Both (first ∷ next ∷ rest)) (exprs.Both (first ∷ next ∷ rest)) (exprs.rolls-Both (first ∷ next ∷ rest))
    (printable_both (words_at 3 (spelled first)) _ (part 3 first one) (subst ArePrintable (sym (flat_map-map (λ s. mark kinds.And 0 ∷ words_at 3 s) spelled (next ∷ rest))) more))

conjunction : (Unary : Rule Expr) → Keeps Unary → Keeps (IsConjunction Unary)
conjunction Unary keeps e = record {
  gives = λ ws r ok.
      let got = (compared Unary keeps r.0 & later kinds.And 3 (IsComparison Unary) (compared Unary keeps) r.1).gives ws r.3 ok in
      subst Good (sym r.2) (both_node r.0 r.1 got.0 got.1);
}

either_node : (first : Expr) (rest : List Expr) → Good first → ArePrintable (flat_map (sign_part kinds.Or 2) rest) → Good (chain either first rest)
either_node first [] one more = one
either_node first (next ∷ rest) one more =
    made (Either (first ∷ next ∷ rest)) (exprs.Either (first ∷ next ∷ rest)) (exprs.rolls-Either (first ∷ next ∷ rest))
    (printable_both (words_at 2 (spelled first)) _ (part 2 first one) (subst ArePrintable (sym (flat_map-map (λ s. mark kinds.Or 0 ∷ words_at 2 s) spelled (next ∷ rest))) more))

disjunction : (Unary : Rule Expr) → Keeps Unary → Keeps (IsDisjunction Unary)
disjunction Unary keeps e = record {
  gives = λ ws r ok.
      let got = (conjunction Unary keeps r.0 & later kinds.Or 2 (IsConjunction Unary) (conjunction Unary keeps) r.1).gives ws r.3 ok in
      subst Good (sym r.2) (either_node r.0 r.1 got.0 got.1);
}

atom : (e : Expr) (ws : List Word) → IsAtom e ws → ArePrintable ws → Good e
atom e ws (inl r) ok = subst Good (sym r.2) (made (Number r.1 r.0) (exprs.Number r.1 r.0) (exprs.rolls-Number r.1 r.0) ((is_number r.0 r.1).gives ws r.3 ok, tt))
atom e ws (inr (inl r)) ok = subst Good (sym r.2) (made (Truth r.1 r.0) (exprs.Truth r.1 r.0) (exprs.rolls-Truth r.1 r.0) (tt, tt))
atom e ws (inr (inr r)) ok = subst Good (sym r.2) (made (Named r.1 r.0) (exprs.Named r.1 r.0) (exprs.rolls-Named r.1 r.0) ((is_name r.0 r.1).gives ws r.3 ok, tt))

opened : (Unary : Rule Expr) → Keeps Unary → (e : Expr) (ws : List Word) → IsOpened Unary e ws → ArePrintable ws → Good e
opened Unary keeps e ws (inl r) ok =
    subst Good (sym r.2) (made (Minus r.0 r.1) (exprs.Minus r.0 r.1) (exprs.rolls-Minus r.0 r.1) (tt, part 6 r.1 ((IsMarkAt kinds.Minus r.0 &> keeps r.1).gives ws r.3 ok)))
opened Unary keeps e ws (inr (inl r)) ok =
    subst Good (sym r.2) (made (Not r.0 r.1) (exprs.Not r.0 r.1) (exprs.rolls-Not r.0 r.1) (tt, part 6 r.1 ((IsMarkAt kinds.Not r.0 &> keeps r.1).gives ws r.3 ok)))
opened Unary keeps e ws (inr (inr r)) ok = (IsMark kinds.OpenParen &> (disjunction Unary keeps e <& IsMark kinds.CloseParen)).gives ws r ok

unary : (levels : ℕ) → Keeps (IsUnary levels)
unary zero e = record { gives = atom e }
unary (suc levels) e = record { gives = by_form (unary levels) }
  where
    by_form : Keeps (IsUnary levels) → (ws : List Word) → IsUnary (suc levels) e ws → ArePrintable ws → Good e
    by_form keeps ws (inl r) ok = atom e ws r ok
    by_form keeps ws (inr r) ok = opened (IsUnary levels) keeps e ws r ok

expression : (levels : ℕ) → Keeps (IsExpression levels)
expression levels = disjunction (IsUnary levels) (unary levels)

-- ---- statements

abbrev Kept : StmtTree → Type 0
Kept s = ArePrintable (statement_words s)

made_statement : (x : StmtTree-F StmtTree) (s : StmtTree) → roll-StmtTree x ≡ s → ArePrintable (statement_layer x) → Kept s
made_statement x s is ok = subst Kept is (subst ArePrintable (sym (fold-roll-StmtTree (List Word) statement_words_step x)) ok)

semicolon : (ws : List Word) → ArePrintable ws → ArePrintable (ws ++ mark kinds.Semicolon 0 ∷ [])
semicolon ws ok = printable_both ws (mark kinds.Semicolon 0 ∷ []) ok (tt, tt)

simple : (levels : ℕ) (s : StmtTree) (ws : List Word) → IsSimple levels s ws → ArePrintable ws → Kept s
simple levels s ws (inl r) ok =
    let got = (is_name r.1 r.0 & (IsMark kinds.Assign &> (expression levels r.2 <& IsMark kinds.Semicolon))).gives ws r.4 ok in
    subst Kept (sym r.3) (made_statement (Set r.0 r.1 r.2) (statements.Set r.0 r.1 r.2) (statements.rolls-Set r.0 r.1 r.2) (got.0, (tt, semicolon (expression_words r.2) got.1)))
simple levels s ws (inr r) ok =
    let got = (IsMarkAt kinds.KeyReturn r.0 &> (expression levels r.1 <& IsMark kinds.Semicolon)).gives ws r.3 ok in
    subst Kept (sym r.2) (made_statement (Return r.0 r.1) (statements.Return r.0 r.1) (statements.rolls-Return r.0 r.1) (tt, semicolon (expression_words r.1) got))

abbrev KeepsStatement : Rule StmtTree → Type 0
KeepsStatement Says = (s : StmtTree) → Gives (Says s) (Kept s)

block : (Inner : Rule StmtTree) → KeepsStatement Inner → (body : List StmtTree) → Gives (IsBlock Inner body) (ArePrintable (flat_map statement_words body))
block Inner keeps body = IsMark kinds.OpenBrace &> (each Inner statement_words keeps body <& IsMark kinds.CloseBrace)

body_layer : (body : List StmtTree) → ArePrintable (flat_map statement_words body) → ArePrintable (flat_map (λ (l : List Word). l) (map statement_words body))
body_layer body ok = subst ArePrintable (sym (flat_map-map (λ (l : List Word). l) statement_words body)) ok

else_some : (body : List StmtTree) → ArePrintable (flat_map statement_words body) → ArePrintable (else_words (map statement_words body))
else_some [] ok = tt
else_some (s ∷ body) ok = (tt, (tt, printable_both (flat_map (λ (l : List Word). l) (map statement_words (s ∷ body))) (mark kinds.CloseBrace 0 ∷ []) (body_layer (s ∷ body) ok) (tt, tt)))

other_block : (Inner : Rule StmtTree) → KeepsStatement Inner → (body : List StmtTree) → Gives (IsElse Inner body) (ArePrintable (else_words (map statement_words body)))
other_block Inner keeps body = record { gives = by_form }
  where
    by_form : (ws : List Word) → IsElse Inner body ws → ArePrintable ws → ArePrintable (else_words (map statement_words body))
    by_form ws (inl r) ok = subst (λ (b : List StmtTree). ArePrintable (else_words (map statement_words b))) (sym r.0) tt
    by_form ws (inr r) ok = else_some body ((IsMark kinds.KeyElse &> block Inner keeps body).gives ws r ok)

branch : (levels : ℕ) (Inner : Rule StmtTree) → KeepsStatement Inner → (s : StmtTree) (ws : List Word) → IsIf levels Inner s ws → ArePrintable ws → Kept s
branch levels Inner keeps s ws r ok =
    let at = r.0 in
    let when = r.1 in
    let body = r.2 in
    let other = r.3 in
    let got = (IsMarkAt kinds.KeyIf at &> IsMark kinds.OpenParen &> (expression levels when & (IsMark kinds.CloseParen &> (block Inner keeps body & other_block Inner keeps other)))).gives ws r.5 ok in
    let inner = flat_map (λ (l : List Word). l) (map statement_words body) in
    let head = printable_both (expression_words when) (mark kinds.CloseParen 0 ∷ mark kinds.OpenBrace 0 ∷ inner) got.0 (tt, (tt, body_layer body got.1.0)) in
    let whole = printable_both (expression_words when ++ (mark kinds.CloseParen 0 ∷ mark kinds.OpenBrace 0 ∷ inner)) (mark kinds.CloseBrace 0 ∷ else_words (map statement_words other)) head (tt, got.1.1) in
    subst Kept (sym r.4) (made_statement (If at when body other) (statements.If at when body other) (statements.rolls-If at when body other) (tt, (tt, whole)))

statement : (levels : ℕ) → KeepsStatement (IsStatement levels)
statement zero s = record { gives = simple zero s }
statement (suc levels) s = record { gives = by_form (statement levels) }
  where
    by_form : KeepsStatement (IsStatement levels) → (ws : List Word) → IsStatement (suc levels) s ws → ArePrintable ws → Kept s
    by_form keeps ws (inl r) ok = simple (suc levels) s ws r ok
    by_form keeps ws (inr r) ok = branch (suc levels) (IsStatement levels) keeps s ws r ok

-- ---- files

literal_of : (negative : Bool) (at digits : ℕ) → Gives (after_minus negative (IsNumeral digits at)) (ArePrintable (literal_words (record { at = at; minus = negative; digits = digits })))
literal_of true at digits = record { gives = λ ws r ok. (tt, ((IsMark kinds.Minus &> is_number digits at).gives ws r ok, tt)) }
literal_of false at digits = record { gives = λ ws r ok. ((is_number digits at).gives ws r ok, tt) }

literal : (l : Lit) → Gives (IsLiteral l) (ArePrintable (literal_words l))
literal l = literal_of l.minus l.at l.digits

limit : (l : LimitTree) → Gives (IsLimit l) (ArePrintable (limit_words l))
limit l = record {
  gives = λ ws r ok.
      let got = (is_spelled WHERE & (IsMark kinds.OpenParen &> (is_name l.subject.name l.subject.at & (IsMark (limit_sign l.sign) &> (literal l.bound <& IsMark kinds.CloseParen))))).gives ws r ok in
      (got.0, (tt, (got.1.0, (tt, printable_both (literal_words l.bound) (mark kinds.CloseParen 0 ∷ []) got.1.1 (tt, tt)))));
}

declaration_rule : (d : Decl) (ws : List Word) → IsDeclaration d ws → ArePrintable ws → ArePrintable (declaration_words d)
declaration_rule (decls.Const at name value) ws r ok =
    let got = (IsMark kinds.KeyConst &> (is_name name at & (IsMark kinds.Assign &> (literal value <& IsMark kinds.Semicolon)))).gives ws r ok in
    (tt, (got.0, (tt, semicolon (literal_words value) got.1)))
declaration_rule (decls.Param at name value l) ws r ok =
    let got = (is_spelled PARAM & (is_name name at & (IsMark kinds.Assign &> (literal value & (limit l <& IsMark kinds.Semicolon))))).gives ws r ok in
    let front = ident PARAM 0 ∷ ident name 0 ∷ mark kinds.Assign 0 ∷ literal_words value in
    semicolon (front ++ limit_words l) (printable_both front (limit_words l) (got.0, (got.1.0, (tt, got.1.1.0))) got.1.1.1)
declaration_rule (decls.Int at name value) ws r ok =
    let got = (IsMark kinds.KeyInt &> (is_name name at & (IsMark kinds.Assign &> (literal value <& IsMark kinds.Semicolon)))).gives ws r ok in
    (tt, (got.0, (tt, semicolon (literal_words value) got.1)))
declaration_rule (decls.Copied at name source) ws r ok =
    let got = (IsMark kinds.KeyInt &> (is_name name at & (IsMark kinds.Assign &> (is_name source.name source.at <& IsMark kinds.Semicolon)))).gives ws r ok in
    (tt, (got.0, (tt, (got.1, (tt, tt)))))
declaration_rule (decls.Flag at name value) ws r ok =
    let got = (IsMark kinds.KeyBool &> (is_name name at <& (IsMark kinds.Assign ⌢ IsMark (truth_word value) ⌢ IsMark kinds.Semicolon))).gives ws r ok in
    (tt, (got, (tt, (tt, (tt, tt)))))

declaration : (d : Decl) → Gives (IsDeclaration d) (ArePrintable (declaration_words d))
declaration d = record { gives = declaration_rule d }

input : (i : InputTree) → Gives (IsInput i) (ArePrintable (input_words i))
input i = record { gives = λ ws r ok. (tt, ((IsMark (kind_word i.kind) &> is_name i.name i.at).gives ws r ok, tt)) }

more_input : (i : InputTree) → Gives (IsMark kinds.Comma ⌢ IsInput i) (ArePrintable (mark kinds.Comma 0 ∷ input_words i))
more_input i = record { gives = λ ws r ok. (tt, (IsMark kinds.Comma &> input i).gives ws r ok) }

all_inputs : (is : List InputTree) → Gives (AreInputs is) (ArePrintable (inputs_words is))
all_inputs [] = record { gives = λ ws r ok. tt }
all_inputs (i ∷ is) = record {
  gives = λ ws r ok.
      let got = (input i & each (λ i. IsMark kinds.Comma ⌢ IsInput i) (λ i. mark kinds.Comma 0 ∷ input_words i) more_input is).gives ws r ok in
      printable_both (input_words i) (flat_map (λ i. mark kinds.Comma 0 ∷ input_words i) is) got.0 got.1;
}

local_rule : (d : Decl) (ws : List Word) → IsLocal d ws → ArePrintable ws → ArePrintable (local_words d)
local_rule (decls.Const at name value) ws r ok = absurd r
local_rule (decls.Param at name value limit) ws r ok = absurd r
local_rule (decls.Copied at name source) ws r ok = absurd r
local_rule (decls.Int at name value) ws r ok = (tt, (IsMark kinds.KeyLocal &> declaration (decls.Int at name value)).gives ws r ok)
local_rule (decls.Flag at name value) ws r ok = (tt, (IsMark kinds.KeyLocal &> declaration (decls.Flag at name value)).gives ws r ok)

local : (d : Decl) → Gives (IsLocal d) (ArePrintable (local_words d))
local d = record { gives = local_rule d }

-- a block's words, from those of its guard and of its body
block_printable : (opening : Word) (b : BlockTree) → IsPrintableWord opening → ArePrintable (expression_words b.guard) → ArePrintable (flat_map statement_words b.body) → ArePrintable (guarded_words opening b)
block_printable opening b opens guard body =
    let g = expression_words b.guard in
    let lines = mark kinds.CloseParen 0 ∷ mark kinds.OpenBrace 0 ∷ flat_map statement_words b.body in
    (opens, (tt, printable_both (g ++ lines) (mark kinds.CloseBrace 0 ∷ []) (printable_both g lines guard (tt, (tt, body))) (tt, tt)))

guarded : (b : BlockTree) → Gives (IsGuarded b) (ArePrintable (guarded_words (mark kinds.KeyWaituntil 0) b))
guarded b = record {
  gives = λ ws r ok.
      let got =
      (IsMarkAt kinds.KeyWaituntil b.at &> IsMark kinds.OpenParen &> (expression LEVELS b.guard & (IsMark kinds.CloseParen
      &> block (IsStatement LEVELS) (statement LEVELS) b.body))).gives ws r ok in
      block_printable (mark kinds.KeyWaituntil 0) b tt got.0 got.1;
}

asserted : (b : BlockTree) → Gives (IsAsserted b) (ArePrintable (guarded_words (ident ASSERTS 0) b))
asserted b = record {
  gives = λ ws r ok.
      let got =
      (is_name ASSERTS b.at & (IsMark kinds.OpenParen &> (expression LEVELS b.guard & (IsMark kinds.CloseParen
      &> block (IsStatement LEVELS) (statement LEVELS) b.body)))).gives ws r ok in
      block_printable (ident ASSERTS 0) b got.0 got.1.0 got.1.1;
}

all_blocks : (asserts : Bool) (bs : List BlockTree) → Gives (AreBlocks asserts bs) (ArePrintable (flat_map (guarded_words (opening_word asserts)) bs))
all_blocks false [] = record { gives = λ ws r ok. absurd r }
all_blocks false (b ∷ bs) = record {
  gives = λ ws r ok.
      let words = guarded_words (mark kinds.KeyWaituntil 0) in
      let got = (guarded b & each IsGuarded words guarded bs).gives ws r ok in
      printable_both (words b) (flat_map words bs) got.0 got.1;
}
all_blocks true [] = record { gives = λ ws r ok. absurd r }
all_blocks true (b ∷ []) = record { gives = λ ws r ok. printable_both (guarded_words (ident ASSERTS 0) b) [] ((asserted b).gives ws r ok) tt }
all_blocks true (b ∷ (c ∷ more)) = record { gives = λ ws r ok. absurd r }

method : (m : MethodTree) → Gives (IsMethod m) (ArePrintable (method_words m))
method m = record {
  gives = λ ws r ok.
      let got =
      (IsMark kinds.KeyMethod &> (is_name m.name m.at & (IsMark kinds.OpenParen &> (all_inputs m.inputs & (IsMark kinds.CloseParen
      &> (each IsLocal local_words local m.locals & all_blocks m.asserts m.blocks)))))).gives ws r ok in
      let i = inputs_words m.inputs in
      let l = mark kinds.CloseParen 0 ∷ flat_map local_words m.locals in
      (tt, (got.0, (tt, printable_both (i ++ l) (flat_map (guarded_words (opening_word m.asserts)) m.blocks) (printable_both i l got.1.0 (tt, got.1.1.0)) got.1.1.1)));
}

file : (tree : MonitorTree) (ws : List Word) → IsMonitorFile tree ws → ArePrintable ws → IsPrintable tree
file tree ws r ok =
    let got =
    (IsMark kinds.KeyMonitor &> (is_name tree.name r.0 & (IsMark kinds.OpenBrace
    &> (each IsDeclaration declaration_words declaration tree.decls & (each IsMethod method_words method tree.methods <& IsMark kinds.CloseBrace))))).gives ws r.1 ok in
    let d = flat_map declaration_words tree.decls in
    let m = flat_map method_words tree.methods in
    (tt, (got.0, (tt, printable_both (d ++ m) (mark kinds.CloseBrace 0 ∷ []) (printable_both d m got.1.0 got.1.1) (tt, tt))))

-- A derived tree can be printed and read again.
pub derived_printable : (bytes : List ℕ) (tokens : List Token) (tree : MonitorTree) → Spells bytes tokens → Derives bytes tokens tree → IsPrintable tree
derived_printable bytes tokens tree spelled derived = file tree (words bytes tokens) derived (words_printable bytes tokens (tokens_are bytes tokens spelled))
