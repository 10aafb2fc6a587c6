-- The canonical text of a tree is spelled by tokens that say its canonical words.
use Rattle.std.proofs.Common.{◌≡◌, ℕ, zero, suc, ◌+◌, ◌*◌, Bool, true, false, List, [], ◌∷◌, ◌++◌, map, replicate, refl, sym, subst, append_assoc, append-nil, arith}
use Rattle.std.specs.Prelude.{codes}
use Rattle.std.specs.List.{flat_map}
use Rattle.lang_tokens.specs.declared.token.TokenKind.TheVariants as kinds
use Rattle.lang_tokens.specs.declared.token.Token.{Token}
use Rattle.lang_tree.specs.declared.tree.Lit.{Lit}
use Rattle.lang_tree.specs.declared.tree.LimitSign.{LimitSign}
use Rattle.lang_tree.specs.declared.tree.LimitSign.TheVariants as signs
use Rattle.lang_tree.specs.declared.tree.LimitTree.{LimitTree}
use Rattle.lang_tree.specs.declared.tree.Decl.{Decl}
use Rattle.lang_tree.specs.declared.tree.Decl.TheVariants as decls
use Rattle.lang_base.specs.declared.kind.Kind.{Kind}
use Rattle.lang_base.specs.declared.kind.Kind.TheVariants as inputs
use Rattle.lang_tree.specs.declared.tree.InputTree.{InputTree}
use Rattle.lang_tree.specs.declared.tree.StmtTree.{StmtTree, roll-StmtTree}
use Rattle.lang_tree.specs.declared.tree.StmtTree.TheOpen.{StmtTree-F, Set, If, Return}
use Rattle.lang_tree.specs.declared.tree.StmtTree.TheFolds.{fold-roll-StmtTree, map-StmtTree, ind-StmtTree}
use Rattle.lang_tree.specs.declared.tree.BlockTree.{BlockTree}
use Rattle.lang_tree.specs.declared.tree.MethodTree.{MethodTree}
use Rattle.lang_tree.specs.declared.tree.MonitorTree.{MonitorTree}
use Rattle.lang_tokens.specs.Spelling.{Spells}
use Rattle.lang_tokens.specs.inner.Pieces.{longest_at, other_at}
use Rattle.lang_tokens.specs.Words.{Word, ident, mark, words}
use Rattle.lang_syntax.specs.Grammar.{limit_sign, kind_word, WHERE, PARAM, ASSERTS}
use Rattle.lang_printer.specs.Canonical.{otherwise, statement_step, statement_text, literal_text, limit_sign_text, limit_text, declared_text, declaration_text, local_text, opening_text, guarded_text, lines_text, blocks_text, kind_text, input_text, input_texts, joined, method_text, tree_text}
use Rattle.lang_syntax.proofs.CanonicalWords.{bare, expression_words, else_words, statement_words_step, statement_words, literal_words, limit_words, declaration_words, input_words, inputs_words, local_words, opening_word, guarded_words, method_words, tree_words}
use Rattle.lang_syntax.proofs.CanonicalPieces.{Reads, reads_nothing, spells_words, Says, ◌▷◌, ◌▶◌, less, says_nothing, says_same, space, line_feed, begin_brace, end_brace, begin_paren, end_paren, semicolon, comma, minus, between_blanks, keyword, name, number}
use Rattle.lang_syntax.proofs.SpelledExpressions.{expression, truth}
use Rattle.lang_syntax.proofs.Printable.{IsPrintableWord, ArePrintable, IsPrintable, printable_front, printable_back, statement_layer}

-- ---- fixed texts

assign : Says false true (codes " = ") (mark kinds.Assign 0 ∷ [])
unfolding longest_at other_at
assign = between_blanks (codes "=") kinds.Assign (λ rest. refl)

line_end : Says false true (codes ";\n") (mark kinds.Semicolon 0 ∷ [])
line_end = semicolon ▷ line_feed

block_begin : Says false true (codes ") {\n") (mark kinds.CloseParen 0 ∷ mark kinds.OpenBrace 0 ∷ [])
block_begin = end_paren ▷ space ▷ begin_brace ▷ line_feed

-- ---- statements

pub blanks : (n : ℕ) → Says false false (replicate n 32) []
blanks zero = says_nothing false
blanks (suc n) = less (space ▷ blanks n)

abbrev Lines : StmtTree → Type 0
Lines statement = (depth : ℕ) → ArePrintable (statement_words statement) → Says false false (statement_text statement depth) (statement_words statement)

abbrev Body : Type 0
Body = List ((statement : StmtTree) × Lines statement)

abbrev body_words : Body → List Word
body_words body = flat_map (λ (l : List Word). l) (map statement_words (map (λ e. e.0) body))

abbrev body_text : ℕ → Body → List ℕ
body_text depth body = flat_map (λ (lines : ℕ → List ℕ). lines depth) (map statement_text (map (λ e. e.0) body))

body_says : (depth : ℕ) (body : Body) → ArePrintable (body_words body) → Says false false (body_text depth body) (body_words body)
body_says depth [] ok = says_nothing false
body_says depth (x ∷ xs) ok = x.1 depth (printable_front (statement_words x.0) (body_words xs) ok) ▷ body_says depth xs (printable_back (statement_words x.0) (body_words xs) ok)

else_group : (k w c : List Word) → ((k ++ w) ++ []) ++ c ≡ (k ++ w) ++ c
else_group k w c = simp append-nil

else_says : (depth : ℕ) (other : Body) → ArePrintable (else_words (map statement_words (map (λ e. e.0) other))) → Says false false (otherwise depth (map statement_text (map (λ e. e.0) other))) (else_words (map statement_words (map (λ e. e.0) other)))
else_says depth [] ok = says_nothing false
else_says depth (x ∷ xs) ok =
    let head : Says false true (codes " else {\n") (mark kinds.KeyElse 0 ∷ mark kinds.OpenBrace 0 ∷ []) = space ▷ keyword 101 (codes "lse") refl refl (omega arith) ▶ space ▷ begin_brace ▷ line_feed in
    let inner = body_says (depth + 1) (x ∷ xs) (printable_front (body_words (x ∷ xs)) (mark kinds.CloseBrace 0 ∷ []) ok.1.1) in
    less (says_same refl (else_group (mark kinds.KeyElse 0 ∷ mark kinds.OpenBrace 0 ∷ []) (body_words (x ∷ xs)) (mark kinds.CloseBrace 0 ∷ [])) (head ▷ inner ▷ blanks (2 * depth) ▷ end_brace))

if_group : (k e c b d o : List Word) → ((((((k ++ e) ++ c) ++ b) ++ []) ++ d) ++ o) ++ [] ≡ ((k ++ e) ++ (c ++ b)) ++ (d ++ o)
if_group k e c b d o = simp (append_assoc, append-nil)

abbrev Layer : Type 0
Layer = StmtTree-F ((statement : StmtTree) × Lines statement)

abbrev bare_layer : Layer → StmtTree-F StmtTree
bare_layer = map-StmtTree ((statement : StmtTree) × Lines statement) StmtTree (λ e. e.0)

abbrev printed_layer : StmtTree-F StmtTree → ℕ → List ℕ
printed_layer x = statement_step (map-StmtTree StmtTree (ℕ → List ℕ) statement_text x)

layer_says : (y : Layer) (depth : ℕ) → ArePrintable (statement_layer (bare_layer y)) → Says false false (printed_layer (bare_layer y) depth) (statement_layer (bare_layer y))
layer_says (Set at target value) depth ok =
    blanks (2 * depth) ▷ name target ok.0 ▶ assign ▷ expression value (printable_front (expression_words value) (mark kinds.Semicolon 0 ∷ []) ok.1.1) ▶ line_end
layer_says (If at when body other) depth ok =
    let k = mark kinds.KeyIf 0 ∷ mark kinds.OpenParen 0 ∷ [] in
    let c = mark kinds.CloseParen 0 ∷ mark kinds.OpenBrace 0 ∷ [] in
    let d = mark kinds.CloseBrace 0 ∷ [] in
    let e = expression_words when in
    let b = body_words body in
    let o = else_words (map statement_words (map (λ e. e.0) other)) in
    let first = printable_front ((k ++ e) ++ (c ++ b)) (d ++ o) ok in
    let head : Says false false (codes "if (") k = keyword 105 (codes "f") refl refl (omega arith) ▶ space ▷ begin_paren in
    let test = expression when (printable_front (k ++ e) (c ++ b) first).1.1 in
    let inner = body_says (depth + 1) body (printable_back (k ++ e) (c ++ b) first).1.1 in
    let last = else_says depth other (printable_back ((k ++ e) ++ (c ++ b)) (d ++ o) ok).1 in
    says_same refl (if_group k e c b d o) (blanks (2 * depth) ▷ head ▷ test ▶ block_begin ▷ inner ▷ blanks (2 * depth) ▷ end_brace ▷ last ▷ line_feed)
layer_says (Return at value) depth ok =
    let head : Says false false (codes "return ") (mark kinds.KeyReturn 0 ∷ []) = keyword 114 (codes "eturn") refl refl (omega arith) ▶ space in
    blanks (2 * depth) ▷ head ▷ expression value (printable_front (expression_words value) (mark kinds.Semicolon 0 ∷ []) ok.1) ▶ line_end

roll_says : (x : StmtTree-F StmtTree) → ((depth : ℕ) → ArePrintable (statement_layer x) → Says false false (printed_layer x depth) (statement_layer x)) → Lines (roll-StmtTree x)
roll_says x h = λ depth.
    subst (λ (f : ℕ → List ℕ). ArePrintable (statement_words (roll-StmtTree x)) → Says false false (f depth) (statement_words (roll-StmtTree x))) (sym (fold-roll-StmtTree (ℕ → List ℕ) statement_step x))
    (subst (λ (l : List Word). ArePrintable l → Says false false (printed_layer x depth) l) (sym (fold-roll-StmtTree (List Word) statement_words_step x)) (h depth))

pub statement : (s : StmtTree) → Lines s
statement = ind-StmtTree Lines (λ x y is. subst (λ (z : StmtTree-F StmtTree). Lines (roll-StmtTree z)) is (roll_says (bare_layer y) (layer_says y)))

statements : (depth : ℕ) (body : List StmtTree) → ArePrintable (flat_map statement_words body) → Says false false (flat_map (λ s. statement_text s depth) body) (flat_map statement_words body)
statements depth [] ok = says_nothing false
statements depth (s ∷ more) ok = statement s depth (printable_front (statement_words s) (flat_map statement_words more) ok) ▷ statements depth more (printable_back (statement_words s) (flat_map statement_words more) ok)

-- ---- declarations

literal_of : (negative : Bool) (at digits : ℕ) → ArePrintable (literal_words (record { at = at; minus = negative; digits = digits })) → Says true false (literal_text (record { at = at; minus = negative; digits = digits })) (literal_words (record { at = at; minus = negative; digits = digits }))
literal_of true at digits ok = less (minus ▷ number digits ok.1.0)
literal_of false at digits ok = number digits ok.0

pub literal : (l : Lit) → ArePrintable (literal_words l) → Says true false (literal_text l) (literal_words l)
literal l ok = literal_of l.minus l.at l.digits ok

sign : (s : LimitSign) → Says false true (limit_sign_text s) (mark (limit_sign s) 0 ∷ [])
unfolding longest_at other_at
sign signs.Equal = between_blanks (codes "==") kinds.Equal (λ rest. refl)
sign signs.Less = between_blanks (codes "<") kinds.Less (λ rest. refl)
sign signs.AtMost = between_blanks (codes "<=") kinds.AtMost (λ rest. refl)
sign signs.More = between_blanks (codes ">") kinds.More (λ rest. refl)
sign signs.AtLeast = between_blanks (codes ">=") kinds.AtLeast (λ rest. refl)

-- a parameter's condition, without the word and the parentheses around it
abbrev condition_words : LimitTree → List Word
condition_words l = ident l.subject.name 0 ∷ mark (limit_sign l.sign) 0 ∷ literal_words l.bound

condition : (l : LimitTree) → ArePrintable (condition_words l) → Says true false (limit_text l) (condition_words l)
condition l ok = name l.subject.name ok.0 ▶ sign l.sign ▷ literal l.bound ok.1.1

parameter_group : (k v w b c e : List Word) → (((k ++ v) ++ w) ++ b) ++ (c ++ e) ≡ ((k ++ v) ++ ((w ++ b) ++ c)) ++ e
parameter_group k v w b c e = simp append_assoc

parameter : (target : List ℕ) (at : ℕ) (value : Lit) (l : LimitTree) → ArePrintable (declaration_words (decls.Param at target value l)) → Says false false (declared_text (decls.Param at target value l)) (declaration_words (decls.Param at target value l))
parameter target at value l ok =
    let k = ident PARAM 0 ∷ ident target 0 ∷ mark kinds.Assign 0 ∷ [] in
    let v = literal_words value in
    let w = ident WHERE 0 ∷ mark kinds.OpenParen 0 ∷ [] in
    let c = mark kinds.CloseParen 0 ∷ [] in
    let e = mark kinds.Semicolon 0 ∷ [] in
    let front = printable_front ((k ++ v) ++ limit_words l) e ok in
    let first = printable_front (k ++ v) (limit_words l) front in
    let second = printable_back (k ++ v) (limit_words l) front in
    let compared = printable_front (w ++ condition_words l) c second in
    let head : Says false false (codes "param ") (ident PARAM 0 ∷ []) = name PARAM first.0 ▶ space in
    let begin : Says false true (codes " where (") w = space ▷ name WHERE second.0 ▶ space ▷ begin_paren in
    let last : Says false true (codes ");\n") (c ++ e) = end_paren ▷ line_end in
    says_same refl (parameter_group k v w (condition_words l) c e) (head ▷ name target first.1.0 ▶ assign ▷ literal value first.1.1.1 ▶ begin ▷ condition l compared.1.1 ▶ last)

declared : (d : Decl) → ArePrintable (declaration_words d) → Says false false (declared_text d) (declaration_words d)
declared (decls.Const at target value) ok =
    let head : Says false false (codes "const ") (mark kinds.KeyConst 0 ∷ []) = keyword 99 (codes "onst") refl refl (omega arith) ▶ space in
    head ▷ name target ok.1.0 ▶ assign ▷ literal value (printable_front (literal_words value) (mark kinds.Semicolon 0 ∷ []) ok.1.1.1) ▶ line_end
declared (decls.Int at target value) ok =
    let head : Says false false (codes "int ") (mark kinds.KeyInt 0 ∷ []) = keyword 105 (codes "nt") refl refl (omega arith) ▶ space in
    head ▷ name target ok.1.0 ▶ assign ▷ literal value (printable_front (literal_words value) (mark kinds.Semicolon 0 ∷ []) ok.1.1.1) ▶ line_end
declared (decls.Param at target value l) ok = parameter target at value l ok
declared (decls.Copied at target source) ok =
    let head : Says false false (codes "int ") (mark kinds.KeyInt 0 ∷ []) = keyword 105 (codes "nt") refl refl (omega arith) ▶ space in
    head ▷ name target ok.1.0 ▶ assign ▷ name source.name ok.1.1.1.0 ▶ line_end
declared (decls.Flag at target value) ok =
    let head : Says false false (codes "bool ") (mark kinds.KeyBool 0 ∷ []) = keyword 98 (codes "ool") refl refl (omega arith) ▶ space in
    head ▷ name target ok.1.0 ▶ assign ▷ truth value ▶ line_end

declaration : (d : Decl) → ArePrintable (declaration_words d) → Says false true (declaration_text d) (declaration_words d)
declaration d ok =
    let lead : Says false true (codes "  ") [] = space ▷ space in
    lead ▷ declared d ok

declarations : (ds : List Decl) → ArePrintable (flat_map declaration_words ds) → Says false false (flat_map declaration_text ds) (flat_map declaration_words ds)
declarations [] ok = says_nothing false
declarations (d ∷ ds) ok = less (declaration d (printable_front (declaration_words d) (flat_map declaration_words ds) ok) ▷ declarations ds (printable_back (declaration_words d) (flat_map declaration_words ds) ok))

-- ---- methods

kind : (k : Kind) → Says false false (kind_text k) (mark (kind_word k) 0 ∷ [])
kind inputs.Int = keyword 105 (codes "nt") refl refl (omega arith) ▶ space
kind inputs.Bool = keyword 98 (codes "ool") refl refl (omega arith) ▶ space

input : (i : InputTree) → ArePrintable (input_words i) → Says true false (input_text i) (input_words i)
input i ok = kind i.kind ▷ name i.name ok.1.0

abbrev later_inputs : List InputTree → List Word
later_inputs = flat_map (λ i. mark kinds.Comma 0 ∷ input_words i)

more_inputs : (is : List InputTree) → ArePrintable (later_inputs is) → Says true true (flat_map (λ text. codes ", " ++ text) (input_texts is)) (later_inputs is)
more_inputs [] ok = says_nothing true
more_inputs (i ∷ is) ok =
    let separator : Says false true (codes ", ") (mark kinds.Comma 0 ∷ []) = comma ▷ space in
    let here = printable_front (mark kinds.Comma 0 ∷ input_words i) (later_inputs is) ok in
    (separator ▷ input i here.1) ▶ more_inputs is (printable_back (mark kinds.Comma 0 ∷ input_words i) (later_inputs is) ok)

all_inputs : (is : List InputTree) → ArePrintable (inputs_words is) → Says true false (joined (codes ", ") (input_texts is)) (inputs_words is)
all_inputs [] ok = less (says_nothing true)
all_inputs (i ∷ is) ok = input i (printable_front (input_words i) (later_inputs is) ok) ▶ more_inputs is (printable_back (input_words i) (later_inputs is) ok)

local : (d : Decl) → ArePrintable (local_words d) → Says false true (local_text d) (local_words d)
local d ok =
    let lead : Says false true (codes "    local ") (mark kinds.KeyLocal 0 ∷ []) = space ▷ space ▷ space ▷ space ▷ keyword 108 (codes "ocal") refl refl (omega arith) ▶ space in
    lead ▷ declared d ok.1

locals : (ds : List Decl) → ArePrintable (flat_map local_words ds) → Says false false (flat_map local_text ds) (flat_map local_words ds)
locals [] ok = says_nothing false
locals (d ∷ ds) ok = less (local d (printable_front (local_words d) (flat_map local_words ds) ok) ▷ locals ds (printable_back (local_words d) (flat_map local_words ds) ok))

guarded_group : (w g d b e : List Word) → ((((w ++ g) ++ d) ++ b) ++ []) ++ e ≡ ((w ++ g) ++ (d ++ b)) ++ e
guarded_group w g d b e = simp (append_assoc, append-nil)

-- what opens a block
opening : (asserts : Bool) → IsPrintableWord (opening_word asserts) → Says false false (opening_text asserts) (opening_word asserts ∷ mark kinds.OpenParen 0 ∷ [])
opening true ok = name ASSERTS ok ▶ space ▷ begin_paren
opening false ok = keyword 119 (codes "aituntil") refl refl (omega arith) ▶ space ▷ begin_paren

guarded : (asserts : Bool) (depth : ℕ) (b : BlockTree) → ArePrintable (guarded_words (opening_word asserts) b)
    → Says false false (guarded_text (opening_text asserts) depth b) (guarded_words (opening_word asserts) b)
guarded asserts depth b ok =
    let w = opening_word asserts ∷ mark kinds.OpenParen 0 ∷ [] in
    let g = expression_words b.guard in
    let d = mark kinds.CloseParen 0 ∷ mark kinds.OpenBrace 0 ∷ [] in
    let lines = flat_map statement_words b.body in
    let e = mark kinds.CloseBrace 0 ∷ [] in
    let front = printable_front ((w ++ g) ++ (d ++ lines)) e ok in
    let head = opening asserts ok.0 in
    let last : Says false true (codes "}\n") e = end_brace ▷ line_feed in
    let guard = expression b.guard (printable_front (w ++ g) (d ++ lines) front).1.1 in
    let body = statements (depth + 1) b.body (printable_back (w ++ g) (d ++ lines) front).1.1 in
    says_same refl (guarded_group w g d lines e) (head ▷ guard ▶ block_begin ▷ body ▷ blanks (2 * depth) ▷ last)

block_lines : (asserts : Bool) (bs : List BlockTree) → ArePrintable (flat_map (guarded_words (opening_word asserts)) bs)
    → Says false false (flat_map (λ b. codes "    " ++ guarded_text (opening_text asserts) 2 b) bs) (flat_map (guarded_words (opening_word asserts)) bs)
block_lines asserts [] ok = says_nothing false
block_lines asserts (b ∷ bs) ok =
    let lead : Says false true (codes "    ") [] = space ▷ space ▷ space ▷ space in
    let here = guarded_words (opening_word asserts) b in
    let more = flat_map (guarded_words (opening_word asserts)) bs in
    less (lead ▷ guarded asserts 2 b (printable_front here more ok) ▷ block_lines asserts bs (printable_back here more ok))

lines : (asserts : Bool) (ls : List Decl) (bs : List BlockTree) → ArePrintable (flat_map local_words ls) → ArePrintable (flat_map (guarded_words (opening_word asserts)) bs)
    → Says false true (lines_text (opening_text asserts) ls bs) (flat_map local_words ls ++ flat_map (guarded_words (opening_word asserts)) bs)
lines asserts ls bs kept ok = line_feed ▷ locals ls kept ▷ block_lines asserts bs ok

all_blocks : (asserts : Bool) (ls : List Decl) (bs : List BlockTree) → ArePrintable (flat_map local_words ls) → ArePrintable (flat_map (guarded_words (opening_word asserts)) bs)
    → Says false true (blocks_text (opening_text asserts) ls bs) (flat_map local_words ls ++ flat_map (guarded_words (opening_word asserts)) bs)
all_blocks asserts [] [] kept ok = lines asserts [] [] kept ok
all_blocks asserts [] (b ∷ []) kept ok =
    let words = guarded_words (opening_word asserts) b in
    says_same refl (sym (append-nil words)) (space ▷ guarded asserts 1 b (printable_front words [] ok))
all_blocks asserts [] (b ∷ (c ∷ more)) kept ok = lines asserts [] (b ∷ (c ∷ more)) kept ok
all_blocks asserts (l ∷ ls) bs kept ok = lines asserts (l ∷ ls) bs kept ok

method_group : (k i c l b : List Word) → ((k ++ i) ++ c) ++ (l ++ b) ≡ ((k ++ i) ++ (c ++ l)) ++ b
method_group k i c l b = simp append_assoc

method : (m : MethodTree) → ArePrintable (method_words m) → Says false true (method_text m) (method_words m)
method m ok =
    let k = mark kinds.KeyMethod 0 ∷ ident m.name 0 ∷ mark kinds.OpenParen 0 ∷ [] in
    let i = inputs_words m.inputs in
    let c = mark kinds.CloseParen 0 ∷ [] in
    let l = flat_map local_words m.locals in
    let b = flat_map (guarded_words (opening_word m.asserts)) m.blocks in
    let front = printable_front ((k ++ i) ++ (c ++ l)) b ok in
    let before = printable_front (k ++ i) (c ++ l) front in
    let head : Says false true (codes "  method ") (mark kinds.KeyMethod 0 ∷ []) = space ▷ space ▷ keyword 109 (codes "ethod") refl refl (omega arith) ▶ space in
    let rest = all_blocks m.asserts m.locals m.blocks (printable_back (k ++ i) (c ++ l) front).1 (printable_back ((k ++ i) ++ (c ++ l)) b ok) in
    says_same refl (method_group k i c l b) (head ▷ name m.name before.1.0 ▶ begin_paren ▷ all_inputs m.inputs before.1.1.1 ▶ end_paren ▷ rest)

methods : (ms : List MethodTree) → ArePrintable (flat_map method_words ms) → Says false false (flat_map method_text ms) (flat_map method_words ms)
methods [] ok = says_nothing false
methods (m ∷ ms) ok = less (method m (printable_front (method_words m) (flat_map method_words ms) ok) ▷ methods ms (printable_back (method_words m) (flat_map method_words ms) ok))

-- ---- files

file : (tree : MonitorTree) → ArePrintable (tree_words tree) → Says false false (tree_text tree) (tree_words tree)
file tree ok =
    let k = mark kinds.KeyMonitor 0 ∷ ident tree.name 0 ∷ mark kinds.OpenBrace 0 ∷ [] in
    let d = flat_map declaration_words tree.decls in
    let m = flat_map method_words tree.methods in
    let e = mark kinds.CloseBrace 0 ∷ [] in
    let front = printable_front ((k ++ d) ++ m) e ok in
    let first = printable_front (k ++ d) m front in
    let head : Says false false (codes "monitor ") (mark kinds.KeyMonitor 0 ∷ []) = keyword 109 (codes "onitor") refl refl (omega arith) ▶ space in
    let begin : Says false true (codes " {\n") (mark kinds.OpenBrace 0 ∷ []) = space ▷ begin_brace ▷ line_feed in
    let last : Says false true (codes "}\n") e = end_brace ▷ line_feed in
    head ▷ name tree.name first.1.0 ▶ begin ▷ declarations tree.decls first.1.1.1 ▷ methods tree.methods (printable_back (k ++ d) m front) ▷ last

-- The canonical text of a printable tree is spelled by tokens that say its canonical words.
pub printable_spelled : (tree : MonitorTree) → IsPrintable tree → (tokens : List Token) × Spells (tree_text tree) tokens × (map bare (words (tree_text tree) tokens) ≡ tree_words tree)
printable_spelled tree ok =
    let read : Reads (tree_text tree ++ []) (tree_words tree ++ []) = (file tree ok).before [] [] reads_nothing in
    let whole : Reads (tree_text tree) (tree_words tree) = subst (λ (t : List ℕ). Reads t (tree_words tree)) (append-nil (tree_text tree)) (subst (λ (w : List Word). Reads (tree_text tree ++ []) w) (append-nil (tree_words tree)) read) in
    spells_words (tree_text tree) (tree_words tree) whole
