-- The sums of a tree that is parsed from a file are no longer than the file.
use Rattle.std.proofs.Common.{◌≡◌, ℕ, zero, suc, ◌+◌, ◌≤◌, inl, inr, Bool, true, false, ◌&&◌, List, [], ◌∷◌, ◌++◌, length, map, All, Option, Some, None, refl, sym, ap, subst, ◌∙◌, arith, length-append}
use Rattle.std.specs.Prelude.{nat_le, slice_get}
use Rattle.std.specs.List.{flat_map, list_all}
use Rattle.std.proofs.lemmas.Bool.{and_from}
use Rattle.std.proofs.lemmas.Bool.Decides.{nat_tests}
use Rattle.std.proofs.lemmas.List.{length-map}
use Rattle.std.proofs.lemmas.List.Elements.{All-nil, All-cons, All-append, All-head, All-tail}
use Rattle.lang_base.specs.Limits.{FILE_BYTES, LEVELS}
use Rattle.lang_tokens.specs.declared.token.TokenKind.{TokenKind}
use Rattle.lang_tokens.specs.declared.token.TokenKind.TheVariants as kinds
use Rattle.lang_tokens.specs.Words.{Word, words}
use Rattle.lang_tree.specs.declared.tree.Op.{Op}
use Rattle.lang_tree.specs.declared.tree.Addend.{Addend, out-Addend}
use Rattle.lang_tree.specs.declared.tree.Factor.{Factor, out-Factor}
use Rattle.lang_tree.specs.declared.tree.Expr.{Expr, roll-Expr}
use Rattle.lang_tree.specs.declared.tree.Expr.TheOpen.{Expr-F, Number, Truth, Named, Minus, Not, Product, Sum, Compare, Both, Either}
use Rattle.lang_tree.specs.declared.tree.Expr.TheVariants as exprs
use Rattle.lang_tree.specs.declared.tree.Expr.TheFolds.{fold-Addend, fold-Factor, fold-roll-Expr, fold_out-Addend, fold_out-Factor, map-Expr}
use Rattle.lang_tree.specs.declared.tree.StmtTree.{StmtTree, roll-StmtTree}
use Rattle.lang_tree.specs.declared.tree.StmtTree.TheOpen.{StmtTree-F, Set, If, Return}
use Rattle.lang_tree.specs.declared.tree.StmtTree.TheVariants as statements
use Rattle.lang_tree.specs.declared.tree.StmtTree.TheFolds.{fold-roll-StmtTree, map-StmtTree}
use Rattle.lang_tree.specs.declared.tree.BlockTree.{BlockTree}
use Rattle.lang_tree.specs.declared.tree.MethodTree.{MethodTree}
use Rattle.lang_tree.specs.declared.tree.MonitorTree.{MonitorTree}
use Rattle.lang_syntax.specs.Grammar.{Rule, ◌⌢◌, Each, OneOrMore, Maybe, IsBlock, IsIdent, IsMarkAt, IsMark, IsLocal, IsDeclaration, AreInputs, chain, IsFactor, IsProduct, IsAddend, IsSum, comparison, IsCompared, IsComparison, both, IsConjunction, either, IsDisjunction, IsAtom, IsOpened, IsUnary, IsExpression, IsElse, IsSimple, IsIf, IsStatement, IsGuarded, ASSERTS, IsAsserted, AreBlocks, IsMethod, IsMonitorFile, IsParsed, op_sign, sum_sign}
use Rattle.lang_types.specs.KeptMeaning.{expressions_in, expressions_of, expressions_step}
use Rattle.lang_types.specs.Typed.{PlacedBlock, blocks_from, placed_in}
use Rattle.emit_numbers.proofs.SumLengths.{has_short_sums, short_step}
use Rattle.emit_numbers.proofs.FileWords.{words_few}

-- ---- words

-- no more than a file has bytes
abbrev AreFew : List Word → Type 0
AreFew ws = length ws ≤ 65536

few_front : (front rest ws : List Word) → ws ≡ front ++ rest → AreFew ws → AreFew front
few_front front rest ws is few = let whole = ap (λ (w : List Word). length w) is ∙ length-append front rest in omega arith

few_rest : (front rest ws : List Word) → ws ≡ front ++ rest → AreFew ws → AreFew rest
few_rest front rest ws is few = let whole = ap (λ (w : List Word). length w) is ∙ length-append front rest in omega arith

-- so few words of this rule give the fact
record Gives (First : List Word → Type 0) (A : Type 0) : Type 0 where
  gives : (ws : List Word) → First ws → AreFew ws → A

-- the one rule, and then the other
infixr 20 ◌&◌
◌&◌ : {First Second : List Word → Type 0} {A B : Type 0} → Gives First A → Gives Second B → Gives (First ⌢ Second) (A × B)
(first & second) = record { gives = λ ws r few. (first.gives r.0 r.2 (few_front r.0 r.1 ws r.4 few), second.gives r.1 r.3 (few_rest r.0 r.1 ws r.4 few)) }

-- what follows anything
infixr 20 ◌&>◌
◌&>◌ : (First : List Word → Type 0) {Second : List Word → Type 0} {B : Type 0} → Gives Second B → Gives (First ⌢ Second) B
(First &> second) = record { gives = λ ws r few. second.gives r.1 r.3 (few_rest r.0 r.1 ws r.4 few) }

-- what stands before anything
infixl 21 ◌<&◌
◌<&◌ : {First : List Word → Type 0} {A : Type 0} → Gives First A → (Second : List Word → Type 0) → Gives (First ⌢ Second) A
(first <& Second) = record { gives = λ ws r few. first.gives r.0 r.2 (few_front r.0 r.1 ws r.4 few) }

-- each tree has the fact, and takes a word
each : {Tree : Type 0} (IsTree : Tree → List Word → Type 0) (P : Tree → Type 0) → ((tree : Tree) → Gives (IsTree tree) (P tree)) → (trees : List Tree) → Gives (Each IsTree trees) (All P trees)
each IsTree P one [] = record { gives = λ ws r few. All-nil P }
each IsTree P one (tree ∷ trees) = record {
  gives = λ ws r few. let got = (one tree & each IsTree P one trees).gives ws r few in All-cons P tree trees got.0 got.1;
}

takes_each : {Tree : Type 0} (IsTree : Tree → List Word → Type 0) → ((tree : Tree) (ws : List Word) → IsTree tree ws → 1 ≤ length ws) → (trees : List Tree) (ws : List Word) → Each IsTree trees ws → length trees ≤ length ws
takes_each IsTree one [] ws r = omega arith
takes_each IsTree one (tree ∷ trees) ws r =
    let here = one tree r.0 r.2 in
    let later = takes_each IsTree one trees r.1 r.3 in
    let whole = ap (λ (w : List Word). length w) r.4 ∙ length-append r.0 r.1 in
    omega arith

-- ---- expressions

abbrev Good : Expr → Type 0
Good e = has_short_sums e ≡ true

abbrev short_addend : Addend → Bool
short_addend = fold-Addend Bool Bool Bool short_step (λ addend. addend.of) (λ factor. factor.of)

abbrev short_factor : Factor → Bool
short_factor = fold-Factor Bool Bool Bool short_step (λ addend. addend.of) (λ factor. factor.of)

abbrev layer : Expr-F Expr Addend Factor → Bool
layer x = short_step (map-Expr Expr Addend Factor Bool Bool Bool has_short_sums short_addend short_factor x)

made : (x : Expr-F Expr Addend Factor) (e : Expr) → roll-Expr x ≡ e → layer x ≡ true → Good e
made x e is ok = ap has_short_sums (sym is) ∙ fold-roll-Expr Bool Bool Bool short_step (λ addend. addend.of) (λ factor. factor.of) x ∙ ok

-- each test is true
tests_true : {X : Type 0} (test : X → Bool) (xs : List X) → All (λ x. test x ≡ true) xs → list_all (λ part. part) (map test xs) ≡ true
tests_true test [] held = refl
tests_true test (x ∷ xs) held = and_from (test x) (list_all (λ part. part) (map test xs)) (All-head (λ x. test x ≡ true) x xs held) (tests_true test xs (All-tail (λ x. test x ≡ true) x xs held))

abbrev Keeps : Rule Expr → Type 0
Keeps Says = (e : Expr) → Gives (Says e) (Good e)

factor : (Unary : Rule Expr) → Keeps Unary → (f : Factor) → Gives (IsFactor Unary f) (short_factor f ≡ true)
factor Unary keeps f = record {
  gives = λ ws r few.
      let got = (IsMarkAt kinds.Star (out-Factor f).at &> keeps (out-Factor f).of).gives ws r few in
      fold_out-Factor Bool Bool Bool short_step (λ addend. addend.of) (λ factor. factor.of) f ∙ got;
}

product_node : (first : Expr) (rest : List Factor) → Good first → All (λ f. short_factor f ≡ true) rest → Good (chain exprs.Product first rest)
product_node first [] one more = one
product_node first (next ∷ rest) one more =
    made (Product first (next ∷ rest)) (exprs.Product first (next ∷ rest)) (exprs.rolls-Product first (next ∷ rest))
    (and_from (has_short_sums first) (list_all (λ part. part) (map short_factor (next ∷ rest))) one (tests_true short_factor (next ∷ rest) more))

product : (Unary : Rule Expr) → Keeps Unary → Keeps (IsProduct Unary)
product Unary keeps e = record {
  gives = λ ws r few.
      let got = (keeps r.0 & each (IsFactor Unary) (λ f. short_factor f ≡ true) (factor Unary keeps) r.1).gives ws r.3 few in
      subst Good (sym r.2) (product_node r.0 r.1 got.0 got.1);
}

addend : (Unary : Rule Expr) → Keeps Unary → (a : Addend) → Gives (IsAddend Unary a) (short_addend a ≡ true)
addend Unary keeps a = record {
  gives = λ ws r few.
      let got = (IsMark (sum_sign (out-Addend a).minus) &> product Unary keeps (out-Addend a).of).gives ws r few in
      fold_out-Addend Bool Bool Bool short_step (λ addend. addend.of) (λ factor. factor.of) a ∙ got;
}

takes_addend : (Unary : Rule Expr) (a : Addend) (ws : List Word) → IsAddend Unary a ws → 1 ≤ length ws
takes_addend Unary a ws r =
    let sign = ap (λ (w : List Word). length w) r.2.1 in
    let whole = ap (λ (w : List Word). length w) r.4 ∙ length-append r.0 r.1 in
    omega arith

within_file : (count : ℕ) → count ≤ 65536 → nat_le count FILE_BYTES ≡ true
within_file count few = grind (arith, nat_tests)

sum_node : (first : Expr) (rest : List Addend) → Good first → All (λ a. short_addend a ≡ true) rest → length rest ≤ 65536 → Good (chain exprs.Sum first rest)
sum_node first [] one more few = one
sum_node first (next ∷ rest) one more few =
    let tests = map short_addend (next ∷ rest) in
    let long = length-map (next ∷ rest) short_addend in
    made (Sum first (next ∷ rest)) (exprs.Sum first (next ∷ rest)) (exprs.rolls-Sum first (next ∷ rest))
    (and_from (nat_le (length tests) FILE_BYTES) (has_short_sums first && list_all (λ part. part) tests) (within_file (length tests) (omega arith))
    (and_from (has_short_sums first) (list_all (λ part. part) tests) one (tests_true short_addend (next ∷ rest) more)))

sums : (Unary : Rule Expr) → Keeps Unary → Keeps (IsSum Unary)
sums Unary keeps e = record {
  gives = λ ws r few.
      let got = (product Unary keeps r.0 & each (IsAddend Unary) (λ a. short_addend a ≡ true) (addend Unary keeps) r.1).gives ws r.3 few in
      let later = few_rest r.3.0 r.3.1 ws r.3.4 few in
      let count = takes_each (IsAddend Unary) (takes_addend Unary) r.1 r.3.1 r.3.3 in
      subst Good (sym r.2) (sum_node r.0 r.1 got.0 got.1 (omega arith));
}

compared : (Unary : Rule Expr) → Keeps Unary → Keeps (IsComparison Unary)
compared Unary keeps e = record { gives = λ ws r few. subst Good (sym r.2) (by_rest r.0 r.1 ws r.3 few) }
  where
    by_rest : (left : Expr) (rest : Option (Op × Expr)) (ws : List Word) → (IsSum Unary left ⌢ Maybe (IsCompared Unary) rest) ws → AreFew ws → Good (comparison left rest)
    by_rest left None ws r few = (sums Unary keeps left <& Maybe (IsCompared Unary) None).gives ws r few
    by_rest left (Some (op, right)) ws r few =
        let got = (sums Unary keeps left & (IsMark (op_sign op) &> sums Unary keeps right)).gives ws r few in
        made (Compare op left right) (exprs.Compare op left right) (exprs.rolls-Compare op left right) (and_from (has_short_sums left) (has_short_sums right) got.0 got.1)

later : (kind : TokenKind) (Part : Rule Expr) → Keeps Part → (rest : List Expr) → Gives (Each (λ p. IsMark kind ⌢ Part p) rest) (All Good rest)
later kind Part keeps rest = each (λ p. IsMark kind ⌢ Part p) Good (λ p. IsMark kind &> keeps p) rest

both_node : (first : Expr) (rest : List Expr) → Good first → All Good rest → Good (chain both first rest)
both_node first [] one more = one
both_node first (next ∷ rest) one more =
    made (Both (first ∷ next ∷ rest)) (exprs.Both (first ∷ next ∷ rest)) (exprs.rolls-Both (first ∷ next ∷ rest)) (tests_true has_short_sums (first ∷ next ∷ rest) (All-cons Good first (next ∷ rest) one more))

conjunction : (Unary : Rule Expr) → Keeps Unary → Keeps (IsConjunction Unary)
conjunction Unary keeps e = record {
  gives = λ ws r few.
      let got = (compared Unary keeps r.0 & later kinds.And (IsComparison Unary) (compared Unary keeps) r.1).gives ws r.3 few in
      subst Good (sym r.2) (both_node r.0 r.1 got.0 got.1);
}

either_node : (first : Expr) (rest : List Expr) → Good first → All Good rest → Good (chain either first rest)
either_node first [] one more = one
either_node first (next ∷ rest) one more =
    made (Either (first ∷ next ∷ rest)) (exprs.Either (first ∷ next ∷ rest)) (exprs.rolls-Either (first ∷ next ∷ rest)) (tests_true has_short_sums (first ∷ next ∷ rest) (All-cons Good first (next ∷ rest) one more))

disjunction : (Unary : Rule Expr) → Keeps Unary → Keeps (IsDisjunction Unary)
disjunction Unary keeps e = record {
  gives = λ ws r few.
      let got = (conjunction Unary keeps r.0 & later kinds.Or (IsConjunction Unary) (conjunction Unary keeps) r.1).gives ws r.3 few in
      subst Good (sym r.2) (either_node r.0 r.1 got.0 got.1);
}

atom : (e : Expr) (ws : List Word) → IsAtom e ws → Good e
atom e ws (inl r) = subst Good (sym r.2) (made (Number r.1 r.0) (exprs.Number r.1 r.0) (exprs.rolls-Number r.1 r.0) refl)
atom e ws (inr (inl r)) = subst Good (sym r.2) (made (Truth r.1 r.0) (exprs.Truth r.1 r.0) (exprs.rolls-Truth r.1 r.0) refl)
atom e ws (inr (inr r)) = subst Good (sym r.2) (made (Named r.1 r.0) (exprs.Named r.1 r.0) (exprs.rolls-Named r.1 r.0) refl)

opened : (Unary : Rule Expr) → Keeps Unary → (e : Expr) (ws : List Word) → IsOpened Unary e ws → AreFew ws → Good e
opened Unary keeps e ws (inl r) few =
    subst Good (sym r.2) (made (Minus r.0 r.1) (exprs.Minus r.0 r.1) (exprs.rolls-Minus r.0 r.1) ((IsMarkAt kinds.Minus r.0 &> keeps r.1).gives ws r.3 few))
opened Unary keeps e ws (inr (inl r)) few = subst Good (sym r.2) (made (Not r.0 r.1) (exprs.Not r.0 r.1) (exprs.rolls-Not r.0 r.1) ((IsMarkAt kinds.Not r.0 &> keeps r.1).gives ws r.3 few))
opened Unary keeps e ws (inr (inr r)) few = (IsMark kinds.OpenParen &> (disjunction Unary keeps e <& IsMark kinds.CloseParen)).gives ws r few

unary : (levels : ℕ) → Keeps (IsUnary levels)
unary zero e = record { gives = λ ws r few. atom e ws r }
unary (suc levels) e = record { gives = by_form (unary levels) }
  where
    by_form : Keeps (IsUnary levels) → (ws : List Word) → IsUnary (suc levels) e ws → AreFew ws → Good e
    by_form keeps ws (inl r) few = atom e ws r
    by_form keeps ws (inr r) few = opened (IsUnary levels) keeps e ws r few

expression : (levels : ℕ) → Keeps (IsExpression levels)
expression levels = disjunction (IsUnary levels) (unary levels)

-- ---- statements

abbrev Kept : StmtTree → Type 0
Kept s = All Good (expressions_of s)

made_statement : (x : StmtTree-F StmtTree) (s : StmtTree) → roll-StmtTree x ≡ s → All Good (expressions_step (map-StmtTree StmtTree (List Expr) expressions_of x)) → Kept s
made_statement x s is ok = subst Kept is (subst (All Good) (sym (fold-roll-StmtTree (List Expr) expressions_step x)) ok)

alone : (e : Expr) → Good e → All Good (e ∷ [])
alone e good = All-cons Good e [] good (All-nil Good)

simple : (levels : ℕ) (s : StmtTree) (ws : List Word) → IsSimple levels s ws → AreFew ws → Kept s
simple levels s ws (inl r) few =
    let got = (IsIdent r.1 r.0 &> IsMark kinds.Assign &> (expression levels r.2 <& IsMark kinds.Semicolon)).gives ws r.4 few in
    subst Kept (sym r.3) (made_statement (Set r.0 r.1 r.2) (statements.Set r.0 r.1 r.2) (statements.rolls-Set r.0 r.1 r.2) (alone r.2 got))
simple levels s ws (inr r) few =
    let got = (IsMarkAt kinds.KeyReturn r.0 &> (expression levels r.1 <& IsMark kinds.Semicolon)).gives ws r.3 few in
    subst Kept (sym r.2) (made_statement (Return r.0 r.1) (statements.Return r.0 r.1) (statements.rolls-Return r.0 r.1) (alone r.1 got))

abbrev KeepsStatement : Rule StmtTree → Type 0
KeepsStatement Says = (s : StmtTree) → Gives (Says s) (Kept s)

-- the expressions of all
all_kept : (body : List StmtTree) → All Kept body → All Good (flat_map (λ (l : List Expr). l) (map expressions_of body))
all_kept [] held = All-nil Good
all_kept (s ∷ body) held = All-append Good (expressions_of s) (flat_map (λ (l : List Expr). l) (map expressions_of body)) (All-head Kept s body held) (all_kept body (All-tail Kept s body held))

block : (Inner : Rule StmtTree) → KeepsStatement Inner → (body : List StmtTree) → Gives (IsBlock Inner body) (All Kept body)
block Inner keeps body = IsMark kinds.OpenBrace &> (each Inner Kept keeps body <& IsMark kinds.CloseBrace)

other_block : (Inner : Rule StmtTree) → KeepsStatement Inner → (body : List StmtTree) → Gives (IsElse Inner body) (All Kept body)
other_block Inner keeps body = record { gives = by_form }
  where
    by_form : (ws : List Word) → IsElse Inner body ws → AreFew ws → All Kept body
    by_form ws (inl r) few = subst (All Kept) (sym r.0) (All-nil Kept)
    by_form ws (inr r) few = (IsMark kinds.KeyElse &> block Inner keeps body).gives ws r few

branch : (levels : ℕ) (Inner : Rule StmtTree) → KeepsStatement Inner → (s : StmtTree) (ws : List Word) → IsIf levels Inner s ws → AreFew ws → Kept s
branch levels Inner keeps s ws r few =
    let at = r.0 in
    let when = r.1 in
    let body = r.2 in
    let other = r.3 in
    let got = (IsMarkAt kinds.KeyIf at &> IsMark kinds.OpenParen &> (expression levels when & (IsMark kinds.CloseParen &> (block Inner keeps body & other_block Inner keeps other)))).gives ws r.5 few in
    let these = flat_map (λ (l : List Expr). l) (map expressions_of body) in
    let those = flat_map (λ (l : List Expr). l) (map expressions_of other) in
    subst Kept (sym r.4) (made_statement (If at when body other) (statements.If at when body other) (statements.rolls-If at when body other)
    (All-cons Good when (these ++ those) got.0 (All-append Good these those (all_kept body got.1.0) (all_kept other got.1.1))))

statement : (levels : ℕ) → KeepsStatement (IsStatement levels)
statement zero s = record { gives = simple zero s }
statement (suc levels) s = record { gives = by_form (statement levels) }
  where
    by_form : KeepsStatement (IsStatement levels) → (ws : List Word) → IsStatement (suc levels) s ws → AreFew ws → Kept s
    by_form keeps ws (inl r) few = simple (suc levels) s ws r few
    by_form keeps ws (inr r) few = branch (suc levels) (IsStatement levels) keeps s ws r few

-- ---- files

-- the guard and the body of a block
abbrev pub HasShortSums : BlockTree → Type 0
HasShortSums block = All Good (block.guard ∷ expressions_in block.body)

body_kept : (body : List StmtTree) → All Kept body → All Good (expressions_in body)
body_kept [] held = All-nil Good
body_kept (s ∷ body) held = All-append Good (expressions_of s) (expressions_in body) (All-head Kept s body held) (body_kept body (All-tail Kept s body held))

-- a block, whatever word opens it
any_block : (Opening : List Word → Type 0) (b : BlockTree)
    → Gives (Opening ⌢ IsMark kinds.OpenParen ⌢ IsExpression LEVELS b.guard ⌢ IsMark kinds.CloseParen ⌢ IsBlock (IsStatement LEVELS) b.body) (HasShortSums b)
any_block Opening b = record {
  gives = λ ws r few.
      let got =
      (Opening &> IsMark kinds.OpenParen &> (expression LEVELS b.guard & (IsMark kinds.CloseParen
      &> block (IsStatement LEVELS) (statement LEVELS) b.body))).gives ws r few in
      All-cons Good b.guard (expressions_in b.body) got.0 (body_kept b.body got.1);
}

guarded : (b : BlockTree) → Gives (IsGuarded b) (HasShortSums b)
guarded b = any_block (IsMarkAt kinds.KeyWaituntil b.at) b

asserted : (b : BlockTree) → Gives (IsAsserted b) (HasShortSums b)
asserted b = any_block (IsIdent ASSERTS b.at) b

all_guarded : (bs : List BlockTree) → Gives (OneOrMore IsGuarded bs) (All HasShortSums bs)
all_guarded [] = record { gives = λ ws r few. absurd r }
all_guarded (b ∷ bs) = record {
  gives = λ ws r few. let got = (guarded b & each IsGuarded HasShortSums guarded bs).gives ws r few in All-cons HasShortSums b bs got.0 got.1;
}

all_blocks : (asserts : Bool) (bs : List BlockTree) → Gives (AreBlocks asserts bs) (All HasShortSums bs)
all_blocks false bs = all_guarded bs
all_blocks true [] = record { gives = λ ws r few. absurd r }
all_blocks true (b ∷ []) = record { gives = λ ws r few. All-cons HasShortSums b [] ((asserted b).gives ws r few) (All-nil HasShortSums) }
all_blocks true (b ∷ (next ∷ more)) = record { gives = λ ws r few. absurd r }

abbrev OfMethod : MethodTree → Type 0
OfMethod method = All HasShortSums method.blocks

method : (m : MethodTree) → Gives (IsMethod m) (OfMethod m)
method m =
    IsMark kinds.KeyMethod &> IsIdent m.name m.at &> IsMark kinds.OpenParen &> AreInputs m.inputs &> IsMark kinds.CloseParen
    &> Each IsLocal m.locals &> all_blocks m.asserts m.blocks

file : (tree : MonitorTree) (ws : List Word) → IsMonitorFile tree ws → AreFew ws → All OfMethod tree.methods
file tree ws r few =
    (IsMark kinds.KeyMonitor &> IsIdent tree.name r.0 &> IsMark kinds.OpenBrace &> Each IsDeclaration tree.decls
    &> (each IsMethod OfMethod method tree.methods <& IsMark kinds.CloseBrace)).gives ws r.1 few

-- ---- blocks by their places

abbrev OfPlaced : PlacedBlock → Type 0
OfPlaced placed = HasShortSums placed.block

in_method : (number : ℕ) (method : MethodTree) (blocks : List BlockTree) → All HasShortSums blocks → All OfPlaced (placed_in number method blocks)
in_method number method [] held = All-nil OfPlaced
in_method number method (b ∷ blocks) held =
    All-cons OfPlaced (record { number = number; method = method; block = b }) (placed_in number method blocks) (All-head HasShortSums b blocks held) (in_method number method blocks (All-tail HasShortSums b blocks held))

in_methods : (number : ℕ) (methods : List MethodTree) → All OfMethod methods → All OfPlaced (blocks_from number methods)
in_methods number [] held = All-nil OfPlaced
in_methods number (m ∷ methods) held =
    All-append OfPlaced (placed_in number m m.blocks) (blocks_from (number + 1) methods) (in_method number m m.blocks (All-head OfMethod m methods held)) (in_methods (number + 1) methods (All-tail OfMethod m methods held))

at_index : (list : List PlacedBlock) → All OfPlaced list → (index : ℕ) (placed : PlacedBlock) → slice_get list index ≡ Some placed → OfPlaced placed
at_index [] held index placed is = absurd cc
at_index (one ∷ list) held zero placed is = let same : one ≡ placed = cc in subst OfPlaced same (All-head OfPlaced one list held)
at_index (one ∷ list) held (suc index) placed is = at_index list (All-tail OfPlaced one list held) index placed is

pub parsed_sums_short : (tree : MonitorTree) (index : ℕ) (placed : PlacedBlock) → IsParsed tree → slice_get (blocks_from 0 tree.methods) index ≡ Some placed → HasShortSums placed.block
parsed_sums_short tree index placed parsed here =
    let few = words_few parsed.bytes parsed.tokens parsed.spelled in
    let short = parsed.short in
    at_index (blocks_from 0 tree.methods) (in_methods 0 tree.methods (file tree (words parsed.bytes parsed.tokens) parsed.derived (omega arith))) index placed here
