-- The names of derived trees are identifiers: they are the names among their words, and those of
-- tokens are identifiers.
use Rattle.std.proofs.Common.{◌≡◌, ℕ, zero, suc, inl, inr, Bool, true, false, List, [], ◌∷◌, ◌++◌, All, map, refl, sym, ap, subst, ◌∙◌, append_assoc, append-nil}
use Rattle.std.specs.Prelude.{nat_lt, if◌then◌else◌}
use Rattle.std.specs.List.{flat_map}
use Rattle.std.proofs.lemmas.List.Concat.{flat_map-append}
use Rattle.std.proofs.lemmas.List.Folds.{flat_map-map}
use Rattle.std.proofs.lemmas.List.Elements.{All-append, All-cons, All-head, All-nil}
use Rattle.lang_base.specs.Limits.{LEVELS}
use Rattle.lang_tokens.specs.declared.token.TokenKind.{TokenKind}
use Rattle.lang_tokens.specs.declared.token.TokenKind.TheVariants as kinds
use Rattle.lang_tokens.specs.declared.token.Token.{Token}
use Rattle.lang_tree.specs.declared.tree.Decl.{Decl}
use Rattle.lang_tree.specs.declared.tree.Decl.TheVariants as decls
use Rattle.lang_tree.specs.declared.tree.InputTree.{InputTree}
use Rattle.lang_tree.specs.declared.tree.Expr.{Expr, roll-Expr}
use Rattle.lang_tree.specs.declared.tree.Expr.TheOpen.{Expr-F, Addend-F, Factor-F, Number, Truth, Named, Minus, Not, Product, Sum, Compare, Both, Either}
use Rattle.lang_tree.specs.declared.tree.Expr.TheFolds.{fold-Addend, fold-Factor, fold-roll-Expr, fold-roll-Addend, fold-roll-Factor, map-Expr, ind-Expr}
use Rattle.lang_tree.specs.declared.tree.Addend.{Addend, roll-Addend}
use Rattle.lang_tree.specs.declared.tree.Factor.{Factor, roll-Factor}
use Rattle.lang_tree.specs.declared.tree.StmtTree.{StmtTree, roll-StmtTree}
use Rattle.lang_tree.specs.declared.tree.StmtTree.TheOpen.{StmtTree-F, Set, If, Return}
use Rattle.lang_tree.specs.declared.tree.StmtTree.TheFolds.{fold-roll-StmtTree, map-StmtTree, ind-StmtTree}
use Rattle.lang_tree.specs.declared.tree.BlockTree.{BlockTree}
use Rattle.lang_tree.specs.declared.tree.MethodTree.{MethodTree}
use Rattle.lang_tree.specs.declared.tree.MonitorTree.{MonitorTree}
use Rattle.lang_tree.specs.declared.tree.Arg.{Arg}
use Rattle.lang_tree.specs.declared.tree.Item.{Item}
use Rattle.lang_tree.specs.declared.tree.Item.TheOpen.{Call, Repeat}
use Rattle.lang_tree.specs.declared.tree.Item.TheVariants as items
use Rattle.lang_tree.specs.declared.tree.Item.TheFolds.{fold-roll-Item}
use Rattle.lang_tree.specs.declared.tree.ClientTree.{ClientTree}
use Rattle.lang_tree.specs.declared.tree.ClientsTree.{ClientsTree}
use Rattle.lang_tree.specs.Names.{Names, all_names, expression_names, expression_names_step, addend_names_step, factor_names_step, statement_names, statement_names_step, declared_name, used_names, declaration_names, block_names, method_names, names_in, item_names, item_names_step, client_names, names_in_clients}
use Rattle.lang_tokens.specs.Spelling.{IsIdentifier, Spells}
use Rattle.lang_tokens.specs.Words.{Word, ident, numeral, mark, words}
use Rattle.lang_syntax.specs.Grammar.{◌⌢◌, Each, IsBlock, IsIdent, IsNumeral, IsMarkAt, IsMark, truth_word, PARAM, Derives}
use Rattle.lang_syntax.specs.ClientGrammar.{IsArgument, AreArguments, IsCalled, IsCall, IsRepeat, IsItem, IsClient, DerivesClients}
use Rattle.lang_syntax.proofs.CanonicalWords.{Spelled, in_parentheses, words_at, joined_words, spelled, spelled_step, addend_words, factor_words, expression_words, else_words, statement_words, statement_words_step, literal_words, limit_words, declaration_words, input_words, inputs_words, local_words, opening_word, guarded_words, method_words, tree_words}
use Rattle.lang_syntax.proofs.Printable.{ArePrintable, printable_front, printable_back, addend_tail, factor_tail, expression_layer, statement_layer}
use Rattle.lang_syntax.proofs.DerivedPrintable.{derived_printable, words_printable}
use Rattle.lang_tokens.proofs.Numerals.{tokens_are}

-- ---- the names among words

abbrev names_of : Word → Names
names_of (ident name at) = name ∷ []
names_of (numeral value at) = []
names_of (mark kind at) = []

abbrev pub names_said : List Word → Names
names_said ws = flat_map names_of ws

pub both_said : (xs ys : List Word) (front back : Names) → names_said xs ≡ front → names_said ys ≡ back → names_said (xs ++ ys) ≡ front ++ back
both_said xs ys front back p q = flat_map-append names_of xs ys ∙ ap (λ n. n ++ names_said ys) p ∙ ap (λ n. front ++ n) q

before_mark : (kind : TokenKind) (ws : List Word) (names : Names) → names_said ws ≡ names → names_said (ws ++ mark kind 0 ∷ []) ≡ names
before_mark kind ws names p = both_said ws (mark kind 0 ∷ []) names [] p refl ∙ append-nil names

-- the words of each item, and its names
each_said : {X : Type 0} (ws : X → List Word) (names : X → Names) → ((x : X) → names_said (ws x) ≡ names x) → (xs : List X) → names_said (flat_map ws xs) ≡ flat_map names xs
each_said ws names one [] = refl
each_said ws names one (x ∷ xs) = both_said (ws x) (flat_map ws xs) (names x) (flat_map names xs) (one x) (each_said ws names one xs)

one_name : {X : Type 0} (ws : X → List Word) (name : X → List ℕ) → ((x : X) → names_said (ws x) ≡ name x ∷ []) → (xs : List X) → names_said (flat_map ws xs) ≡ map name xs
one_name ws name one [] = refl
one_name ws name one (x ∷ xs) = both_said (ws x) (flat_map ws xs) (name x ∷ []) (map name xs) (one x) (one_name ws name one xs)

-- parts with the fact of each
abbrev Told : {X : Type 0} → (X → List Word) → (X → Names) → Type 0
Told {X} ws names = (x : X) × (names_said (ws x) ≡ names x)

parts_said : {X : Type 0} (ws : X → List Word) (names : X → Names) (xs : List (Told ws names))
    → names_said (flat_map (λ (l : List Word). l) (map ws (map (λ e. e.0) xs))) ≡ all_names (map names (map (λ e. e.0) xs))
parts_said ws names [] = refl
parts_said ws names (x ∷ xs) =
    both_said (ws x.0) (flat_map (λ (l : List Word). l) (map ws (map (λ e. e.0) xs))) (names x.0) (all_names (map names (map (λ e. e.0) xs))) x.1 (parts_said ws names xs)

-- ---- expressions

abbrev addend_names : Addend → Names
addend_names = fold-Addend Names Names Names expression_names_step addend_names_step factor_names_step

abbrev factor_names : Factor → Names
factor_names = fold-Factor Names Names Names expression_names_step addend_names_step factor_names_step

abbrev names_layer : Expr-F Expr Addend Factor → Names
names_layer x = expression_names_step (map-Expr Expr Addend Factor Names Names Names expression_names addend_names factor_names x)

part : (asked : ℕ) (s : Spelled) (names : Names) → names_said s.words ≡ names → names_said (words_at asked s) ≡ names
part asked s names p = by_test (nat_lt s.level asked)
  where
    by_test : (wrapped : Bool) → names_said (if wrapped then in_parentheses s.words else s.words) ≡ names
    by_test true = before_mark kinds.CloseParen s.words names p
    by_test false = p

abbrev ExprSays : Expr → Type 0
ExprSays e = names_said (expression_words e) ≡ expression_names e

abbrev AddendSays : Addend → Type 0
AddendSays addend = names_said (addend_tail addend) ≡ addend_names addend

abbrev FactorSays : Factor → Type 0
FactorSays factor = names_said (factor_tail factor) ≡ factor_names factor

abbrev Part : Type 0
Part = Told expression_words expression_names

abbrev exprs_of : List Part → List Expr
exprs_of = map (λ e. e.0)

later_parts : (kind : TokenKind) (asked : ℕ) (xs : List Part)
    → names_said (flat_map (λ p. mark kind 0 ∷ words_at asked p) (map spelled (exprs_of xs))) ≡ all_names (map expression_names (exprs_of xs))
later_parts kind asked [] = refl
later_parts kind asked (x ∷ xs) =
    both_said (words_at asked (spelled x.0)) (flat_map (λ p. mark kind 0 ∷ words_at asked p) (map spelled (exprs_of xs)))
    (expression_names x.0) (all_names (map expression_names (exprs_of xs))) (part asked (spelled x.0) (expression_names x.0) x.1) (later_parts kind asked xs)

all_parts : (kind : TokenKind) (asked : ℕ) (xs : List Part) → names_said (joined_words (mark kind 0) asked (map spelled (exprs_of xs))) ≡ all_names (map expression_names (exprs_of xs))
all_parts kind asked [] = refl
all_parts kind asked (x ∷ xs) =
    both_said (words_at asked (spelled x.0)) (flat_map (λ p. mark kind 0 ∷ words_at asked p) (map spelled (exprs_of xs)))
    (expression_names x.0) (all_names (map expression_names (exprs_of xs))) (part asked (spelled x.0) (expression_names x.0) x.1) (later_parts kind asked xs)

abbrev Layer : Type 0
Layer = Expr-F Part ((a : Addend) × AddendSays a) ((f : Factor) × FactorSays f)

abbrev bare_layer : Layer → Expr-F Expr Addend Factor
bare_layer = map-Expr Part ((a : Addend) × AddendSays a) ((f : Factor) × FactorSays f) Expr Addend Factor (λ e. e.0) (λ e. e.0) (λ e. e.0)

layer_says : (y : Layer) → names_said (expression_layer (bare_layer y)).words ≡ names_layer (bare_layer y)
layer_says (Number at value) = refl
layer_says (Truth at value) = refl
layer_says (Named at name) = refl
layer_says (Minus at of) = part 6 (spelled of.0) (expression_names of.0) of.1
layer_says (Not at of) = part 6 (spelled of.0) (expression_names of.0) of.1
layer_says (Product first rest) =
    both_said (words_at 6 (spelled first.0)) (flat_map (λ (l : List Word). l) (map factor_tail (map (λ e. e.0) rest))) (expression_names first.0) (all_names (map factor_names (map (λ e. e.0) rest)))
    (part 6 (spelled first.0) (expression_names first.0) first.1) (parts_said factor_tail factor_names rest)
layer_says (Sum first rest) =
    both_said (words_at 5 (spelled first.0)) (flat_map (λ (l : List Word). l) (map addend_tail (map (λ e. e.0) rest))) (expression_names first.0) (all_names (map addend_names (map (λ e. e.0) rest)))
    (part 5 (spelled first.0) (expression_names first.0) first.1) (parts_said addend_tail addend_names rest)
layer_says (Compare op left right) =
    both_said (words_at 4 (spelled left.0)) _ (expression_names left.0) (expression_names right.0)
    (part 4 (spelled left.0) (expression_names left.0) left.1) (part 4 (spelled right.0) (expression_names right.0) right.1)
layer_says (Both es) = all_parts kinds.And 3 es
layer_says (Either es) = all_parts kinds.Or 2 es

roll_says : (x : Expr-F Expr Addend Factor) → names_said (expression_layer x).words ≡ names_layer x → ExprSays (roll-Expr x)
roll_says x h =
    subst (λ (s : Spelled). names_said s.words ≡ expression_names (roll-Expr x)) (sym (fold-roll-Expr Spelled (List Word) (List Word) spelled_step addend_words factor_words x))
    (h ∙ sym (fold-roll-Expr Names Names Names expression_names_step addend_names_step factor_names_step x))

addend_says : (x : Addend-F Expr Addend Factor) → ExprSays x.of → AddendSays (roll-Addend x)
addend_says x h =
    subst (λ (l : List Word). names_said l ≡ addend_names (roll-Addend x)) (sym (fold-roll-Addend Spelled (List Word) (List Word) spelled_step addend_words factor_words x))
    (part 5 (spelled x.of) (expression_names x.of) h ∙ sym (fold-roll-Addend Names Names Names expression_names_step addend_names_step factor_names_step x))

factor_says : (x : Factor-F Expr Addend Factor) → ExprSays x.of → FactorSays (roll-Factor x)
factor_says x h =
    subst (λ (l : List Word). names_said l ≡ factor_names (roll-Factor x)) (sym (fold-roll-Factor Spelled (List Word) (List Word) spelled_step addend_words factor_words x))
    (part 6 (spelled x.of) (expression_names x.of) h ∙ sym (fold-roll-Factor Names Names Names expression_names_step addend_names_step factor_names_step x))

expression_says : (e : Expr) → ExprSays e
expression_says =
    ind-Expr ExprSays AddendSays FactorSays
    (λ x y is. subst (λ (z : Expr-F Expr Addend Factor). ExprSays (roll-Expr z)) is (roll_says (bare_layer y) (layer_says y)))
    (λ x y is. subst (λ (z : Addend-F Expr Addend Factor). AddendSays (roll-Addend z)) is (addend_says (record { minus = y.minus; of = y.of.0 }) y.of.1))
    (λ x y is. subst (λ (z : Factor-F Expr Addend Factor). FactorSays (roll-Factor z)) is (factor_says (record { at = y.at; of = y.of.0 }) y.of.1))

-- ---- statements

abbrev StatementSays : StmtTree → Type 0
StatementSays s = names_said (statement_words s) ≡ statement_names s

abbrev StatementPart : Type 0
StatementPart = Told statement_words statement_names

abbrev bare_statement : StmtTree-F StatementPart → StmtTree-F StmtTree
bare_statement = map-StmtTree StatementPart StmtTree (λ e. e.0)

abbrev statement_names_layer : StmtTree-F StmtTree → Names
statement_names_layer x = statement_names_step (map-StmtTree StmtTree Names statement_names x)

else_says : (xs : List StatementPart) → names_said (else_words (map statement_words (map (λ e. e.0) xs))) ≡ all_names (map statement_names (map (λ e. e.0) xs))
else_says [] = refl
else_says (x ∷ xs) = before_mark kinds.CloseBrace (flat_map (λ (l : List Word). l) (map statement_words (map (λ e. e.0) (x ∷ xs)))) (all_names (map statement_names (map (λ e. e.0) (x ∷ xs)))) (parts_said statement_words statement_names (x ∷ xs))

statement_layer_says : (y : StmtTree-F StatementPart) → names_said (statement_layer (bare_statement y)) ≡ statement_names_layer (bare_statement y)
statement_layer_says (Set at name value) =
    before_mark kinds.Semicolon (ident name 0 ∷ mark kinds.Assign 0 ∷ expression_words value) (name ∷ expression_names value) (ap (λ n. name ∷ n) (expression_says value))
statement_layer_says (If at when body other) =
    let guard = mark kinds.KeyIf 0 ∷ mark kinds.OpenParen 0 ∷ expression_words when in
    let inner = mark kinds.CloseParen 0 ∷ mark kinds.OpenBrace 0 ∷ flat_map (λ (l : List Word). l) (map statement_words (map (λ e. e.0) body)) in
    let rest = mark kinds.CloseBrace 0 ∷ else_words (map statement_words (map (λ e. e.0) other)) in
    let b = all_names (map statement_names (map (λ e. e.0) body)) in
    let o = all_names (map statement_names (map (λ e. e.0) other)) in
    both_said (guard ++ inner) rest (expression_names when ++ b) o (both_said guard inner (expression_names when) b (expression_says when) (parts_said statement_words statement_names body)) (else_says other)
    ∙ append_assoc (expression_names when) b o
statement_layer_says (Return at value) = before_mark kinds.Semicolon (mark kinds.KeyReturn 0 ∷ expression_words value) (expression_names value) (expression_says value)

roll_statement : (x : StmtTree-F StmtTree) → names_said (statement_layer x) ≡ statement_names_layer x → StatementSays (roll-StmtTree x)
roll_statement x h =
    subst (λ (l : List Word). names_said l ≡ statement_names (roll-StmtTree x)) (sym (fold-roll-StmtTree (List Word) statement_words_step x))
    (h ∙ sym (fold-roll-StmtTree Names statement_names_step x))

statement_says : (s : StmtTree) → StatementSays s
statement_says = ind-StmtTree StatementSays (λ x y is. subst (λ (z : StmtTree-F StmtTree). StatementSays (roll-StmtTree z)) is (roll_statement (bare_statement y) (statement_layer_says y)))

-- ---- files

inputs_say : (inputs : List InputTree) → names_said (inputs_words inputs) ≡ map (λ input. input.name) inputs
inputs_say [] = refl
inputs_say (first ∷ rest) = ap (λ n. first.name ∷ n) (one_name (λ input. mark kinds.Comma 0 ∷ input_words input) (λ (input : InputTree). input.name) (λ input. refl) rest)

pub all_identifiers : (ws : List Word) → ArePrintable ws → All IsIdentifier (names_said ws)
all_identifiers [] ok = All-nil IsIdentifier
all_identifiers (ident name at ∷ ws) ok = All-cons IsIdentifier name (names_said ws) ok.0 (all_identifiers ws ok.1)
all_identifiers (numeral value at ∷ ws) ok = all_identifiers ws ok.1
all_identifiers (mark kind at ∷ ws) ok = all_identifiers ws ok.1

-- The words `asserts`, `param` and `where` are no names of the tree. So from here on the names are
-- those of words that can be printed.

-- a block's words after the one that opens it
abbrev after_opening : BlockTree → List Word
after_opening block =
    mark kinds.OpenParen 0 ∷ expression_words block.guard ++ mark kinds.CloseParen 0
    ∷ mark kinds.OpenBrace 0 ∷ flat_map statement_words block.body ++ mark kinds.CloseBrace 0 ∷ []

after_says : (block : BlockTree) → names_said (after_opening block) ≡ block_names block
after_says block =
    let guard = mark kinds.OpenParen 0 ∷ expression_words block.guard in
    let body = mark kinds.CloseParen 0 ∷ mark kinds.OpenBrace 0 ∷ flat_map statement_words block.body in
    let g = expression_names block.guard in
    let b = flat_map statement_names block.body in
    before_mark kinds.CloseBrace (guard ++ body) (g ++ b) (both_said guard body g b (expression_says block.guard) (each_said statement_words statement_names statement_says block.body))

-- the names of each item
each_named : {X : Type 0} (ws : X → List Word) (names : X → Names) → ((x : X) → ArePrintable (ws x) → All IsIdentifier (names x)) → (xs : List X) → ArePrintable (flat_map ws xs) → All IsIdentifier (flat_map names xs)
each_named ws names one [] ok = All-nil IsIdentifier
each_named ws names one (x ∷ xs) ok =
    All-append IsIdentifier (names x) (flat_map names xs) (one x (printable_front (ws x) (flat_map ws xs) ok)) (each_named ws names one xs (printable_back (ws x) (flat_map ws xs) ok))

block_named : (opening : Word) (block : BlockTree) → ArePrintable (guarded_words opening block) → All IsIdentifier (block_names block)
block_named opening block ok =
    let rest : ArePrintable (after_opening block) = ok.1 in
    subst (All IsIdentifier) (after_says block) (all_identifiers (after_opening block) rest)

each_one_named : {X : Type 0} (ws : X → List Word) (name : X → List ℕ) → ((x : X) → ArePrintable (ws x) → IsIdentifier (name x)) → (xs : List X) → ArePrintable (flat_map ws xs) → All IsIdentifier (map name xs)
each_one_named ws name one [] ok = All-nil IsIdentifier
each_one_named ws name one (x ∷ xs) ok =
    All-cons IsIdentifier (name x) (map name xs) (one x (printable_front (ws x) (flat_map ws xs) ok)) (each_one_named ws name one xs (printable_back (ws x) (flat_map ws xs) ok))

one_named : (name : List ℕ) → IsIdentifier name → All IsIdentifier (name ∷ [])
one_named name is = All-cons IsIdentifier name [] is (All-nil IsIdentifier)

two_named : (name other : List ℕ) → IsIdentifier name → IsIdentifier other → All IsIdentifier (name ∷ other ∷ [])
two_named name other is also = All-cons IsIdentifier name (other ∷ []) is (one_named other also)

declaration_named : (d : Decl) → ArePrintable (declaration_words d) → All IsIdentifier (declaration_names d)
declaration_named (decls.Const at name value) ok = one_named name ok.1.0
declaration_named (decls.Param at name value limit) ok =
    let front = ident PARAM 0 ∷ ident name 0 ∷ mark kinds.Assign 0 ∷ literal_words value in
    let condition = printable_back front (limit_words limit) (printable_front (front ++ limit_words limit) (mark kinds.Semicolon 0 ∷ []) ok) in
    two_named name limit.subject.name ok.1.0 condition.1.1.0
declaration_named (decls.Int at name value) ok = one_named name ok.1.0
declaration_named (decls.Copied at name source) ok = two_named name source.name ok.1.0 ok.1.1.1.0
declaration_named (decls.Flag at name value) ok = one_named name ok.1.0

local_named : (d : Decl) → ArePrintable (local_words d) → IsIdentifier (declared_name d)
local_named d ok = All-head IsIdentifier (declared_name d) (used_names d) (declaration_named d ok.1)

method_named : (m : MethodTree) → ArePrintable (method_words m) → All IsIdentifier (method_names m)
method_named m ok =
    let head = mark kinds.KeyMethod 0 ∷ ident m.name 0 ∷ mark kinds.OpenParen 0 ∷ inputs_words m.inputs in
    let locals = mark kinds.CloseParen 0 ∷ flat_map local_words m.locals in
    let words = guarded_words (opening_word m.asserts) in
    let i = m.name ∷ map (λ (input : InputTree). input.name) m.inputs in
    let l = map declared_name m.locals in
    let b = flat_map block_names m.blocks in
    let front = printable_front (head ++ locals) (flat_map words m.blocks) ok in
    let inputs = subst (All IsIdentifier) (ap (λ n. m.name ∷ n) (inputs_say m.inputs)) (all_identifiers head (printable_front head locals front)) in
    let kept = each_one_named local_words declared_name local_named m.locals (printable_back head locals front).1 in
    let blocks = each_named words block_names (block_named (opening_word m.asserts)) m.blocks (printable_back (head ++ locals) (flat_map words m.blocks) ok) in
    All-append IsIdentifier i (l ++ b) inputs (All-append IsIdentifier l b kept blocks)

tree_named : (tree : MonitorTree) → ArePrintable (tree_words tree) → All IsIdentifier (names_in tree)
tree_named tree ok =
    let head = mark kinds.KeyMonitor 0 ∷ ident tree.name 0 ∷ mark kinds.OpenBrace 0 ∷ flat_map declaration_words tree.decls in
    let methods = flat_map method_words tree.methods in
    let d = flat_map declaration_names tree.decls in
    let m = flat_map method_names tree.methods in
    let both = printable_front (head ++ methods) (mark kinds.CloseBrace 0 ∷ []) ok in
    let first = printable_front head methods both in
    let declared = each_named declaration_words declaration_names declaration_named tree.decls first.1.1.1 in
    let called = each_named method_words method_names method_named tree.methods (printable_back head methods both) in
    All-cons IsIdentifier tree.name (d ++ m) first.1.0 (All-append IsIdentifier d m declared called)

pub monitor_named : (bytes : List ℕ) (tokens : List Token) (tree : MonitorTree) → Spells bytes tokens → Derives bytes tokens tree → All IsIdentifier (names_in tree)
monitor_named bytes tokens tree spelled derived = tree_named tree (derived_printable bytes tokens tree spelled derived)

-- ---- client files: what the words of a rule say

abbrev Says : (List Word → Type 0) → Names → Type 0
Says IsWords names = (ws : List Word) → IsWords ws → names_said ws ≡ names

mark_says : (kind : TokenKind) → Says (IsMark kind) []
mark_says kind ws p = ap names_said p.1

ident_says : (name : List ℕ) (at : ℕ) → Says (IsIdent name at) (name ∷ [])
ident_says name at ws p = ap names_said p

infixr 20 ◌&◌
◌&◌ : {First Second : List Word → Type 0} {front back : Names} → Says First front → Says Second back → Says (First ⌢ Second) (front ++ back)
(◌&◌ {front = front} {back = back} first second) ws p = ap names_said p.4 ∙ both_said p.0 p.1 front back (first p.0 p.2) (second p.1 p.3)

each_says : {X : Type 0} (IsTree : X → List Word → Type 0) (names : X → Names) → ((x : X) → Says (IsTree x) (names x)) → (xs : List X) → Says (Each IsTree xs) (flat_map names xs)
each_says IsTree names one [] ws p = ap names_said p
each_says IsTree names one (x ∷ xs) ws p =
    ap names_said p.4 ∙ both_said p.0 p.1 (names x) (flat_map names xs) (one x p.0 p.2) (each_says IsTree names one xs p.1 p.3)

mark_at_says : (kind : TokenKind) (at : ℕ) → Says (IsMarkAt kind at) []
mark_at_says kind at ws p = ap names_said p

numeral_says : (value at : ℕ) → Says (IsNumeral value at) []
numeral_says value at ws p = ap names_said p

argument_says : (argument : Arg) → Says (IsArgument argument) []
argument_says argument ws (inl p) = (mark_at_says kinds.Minus p.0 & numeral_says p.1 p.2) ws p.4
argument_says argument ws (inr (inl p)) = numeral_says p.1 p.0 ws p.3
argument_says argument ws (inr (inr p)) = mark_at_says (truth_word p.1) p.0 ws p.3

later_say : (given : List Arg) → Says (Each (λ argument. IsMark kinds.Comma ⌢ IsArgument argument) given) []
later_say [] ws p = ap names_said p
later_say (first ∷ rest) ws p = ((mark_says kinds.Comma & argument_says first) & later_say rest) ws p

arguments_say : (given : List Arg) → Says (AreArguments given) []
arguments_say [] ws p = ap names_said p
arguments_say (first ∷ rest) ws p = (argument_says first & later_say rest) ws p

call_named : (at : ℕ) (tries : Bool) (place : ℕ) (name : List ℕ) (given : List Arg) → item_names (items.Call at tries place name given) ≡ name ∷ []
call_named at tries place name given = ap item_names (sym (items.rolls-Call at tries place name given)) ∙ fold-roll-Item Names item_names_step (Call at tries place name given)

called_says : (at : ℕ) (tries : Bool) (place : ℕ) (name : List ℕ) → Says (IsCalled at tries place name) (name ∷ [])
called_says at true place name ws p = (mark_at_says kinds.KeyTry at & ident_says name place) ws p
called_says at false place name ws p = ident_says name place ws p.1

call_says : (item : Item) → Says (IsCall item) (item_names item)
call_says item ws p =
    (called_says p.0 p.1 p.2 p.3 & mark_says kinds.OpenParen & arguments_say p.4 & mark_says kinds.CloseParen & mark_says kinds.Semicolon) ws p.6
    ∙ sym (ap item_names p.5 ∙ call_named p.0 p.1 p.2 p.3 p.4)

block_says : (IsInner : Item → List Word → Type 0) → ((item : Item) → Says (IsInner item) (item_names item)) → (body : List Item) → Says (IsBlock IsInner body) (flat_map item_names body)
block_says IsInner inner body ws p =
    (mark_says kinds.OpenBrace & each_says IsInner item_names inner body & mark_says kinds.CloseBrace) ws p ∙ append-nil (flat_map item_names body)

repeat_named : (at times : ℕ) (body : List Item) → item_names (items.Repeat at times body) ≡ flat_map item_names body
repeat_named at times body =
    ap item_names (sym (items.rolls-Repeat at times body)) ∙ fold-roll-Item Names item_names_step (Repeat at times body) ∙ flat_map-map (λ (names : Names). names) item_names body

repeat_says : (IsInner : Item → List Word → Type 0) → ((item : Item) → Says (IsInner item) (item_names item)) → (item : Item) → Says (IsRepeat IsInner item) (item_names item)
repeat_says IsInner inner item ws p =
    (mark_at_says kinds.KeyRepeat p.0 & numeral_says p.1 p.2 & block_says IsInner inner p.3) ws p.5
    ∙ sym (ap item_names p.4 ∙ repeat_named p.0 p.1 p.3)

item_says : (levels : ℕ) (item : Item) → Says (IsItem levels item) (item_names item)
item_says zero item ws p = call_says item ws p
item_says (suc levels) item ws (inl p) = call_says item ws p
item_says (suc levels) item ws (inr p) = repeat_says (IsItem levels) (item_says levels) item ws p

client_says_of : (IsBody : List Item → List Word → Type 0) → ((body : List Item) → Says (IsBody body) (flat_map item_names body))
    → (client : ClientTree) → Says (IsMark kinds.KeyClient ⌢ IsIdent client.name client.at ⌢ IsBody client.items) (client_names client)
client_says_of IsBody body client ws p = (mark_says kinds.KeyClient & ident_says client.name client.at & body client.items) ws p

client_says : (client : ClientTree) → Says (IsClient client) (client_names client)
client_says client = client_says_of (IsBlock (IsItem LEVELS)) (block_says (IsItem LEVELS) (item_says LEVELS)) client

pub clients_named : (bytes : List ℕ) (tokens : List Token) (tree : ClientsTree) → Spells bytes tokens → DerivesClients bytes tokens tree → All IsIdentifier (names_in_clients tree)
clients_named bytes tokens tree spelled derived =
    subst (All IsIdentifier) (each_says IsClient client_names client_says tree.clients (words bytes tokens) derived)
    (all_identifiers (words bytes tokens) (words_printable bytes tokens (tokens_are bytes tokens spelled)))
