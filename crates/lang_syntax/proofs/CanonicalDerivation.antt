-- The canonical words of a monitor file, whatever their offsets, derive the same tree but for
-- offsets.
use Rattle.std.proofs.Common.{◌≡◌, ℕ, Bool, true, false, List, [], ◌∷◌, ◌++◌, map, refl, ap, ◌∙◌, append_assoc, append-nil}
use Rattle.std.specs.List.{flat_map}
use Rattle.lang_base.specs.Limits.{LEVELS}
use Rattle.lang_tokens.specs.declared.token.TokenKind.{TokenKind}
use Rattle.lang_tokens.specs.declared.token.TokenKind.TheVariants as kinds
use Rattle.lang_tree.specs.declared.tree.Lit.{Lit}
use Rattle.lang_tree.specs.declared.tree.PlacedName.{PlacedName}
use Rattle.lang_tree.specs.declared.tree.LimitSign.{LimitSign}
use Rattle.lang_tree.specs.declared.tree.LimitTree.{LimitTree}
use Rattle.lang_tree.specs.declared.tree.Decl.{Decl}
use Rattle.lang_tree.specs.declared.tree.Decl.TheVariants as decls
use Rattle.lang_tree.specs.declared.tree.InputTree.{InputTree}
use Rattle.lang_tree.specs.declared.tree.Expr.{Expr}
use Rattle.lang_tree.specs.declared.tree.StmtTree.{StmtTree}
use Rattle.lang_tree.specs.declared.tree.BlockTree.{BlockTree}
use Rattle.lang_tree.specs.declared.tree.MethodTree.{MethodTree}
use Rattle.lang_tree.specs.declared.tree.MonitorTree.{MonitorTree}
use Rattle.lang_tokens.specs.Words.{Word, ident, numeral, mark}
use Rattle.lang_syntax.specs.Grammar.{Rule, ◌⌢◌, Each, truth_word, limit_sign, kind_word, IsMarkAt, IsMark, IsIdent, IsNumeral, IsExpression, IsBlock, IsStatement, after_minus, IsLiteral, WHERE, PARAM, IsLimit, IsDeclaration, IsInput, AreInputs, IsLocal, IsGuarded, ASSERTS, IsAsserted, Single, AreBlocks, IsMethod, IsMonitorFile}
use Rattle.lang_tree.specs.Offsets.{unplaced_expression, unplaced_statement, unplaced_literal, unplaced_limit, unplaced_declaration, unplaced_input, unplaced_block, unplaced_method, unplaced}
use Rattle.lang_syntax.proofs.CanonicalWords.{bare, expression_words, statement_words, minus_words, literal_words, limit_words, declaration_words, input_words, inputs_words, local_words, opening_word, guarded_words, method_words, tree_words}
use Rattle.lang_syntax.proofs.PrintedWords.{Cut, Again, each_again, more_again, no_words, alone, cut_mark, cut_mark_at, cut_ident, cut_numeral, cut_tree, last_mark}
use Rattle.lang_syntax.proofs.CanonicalExpressions.{expression_again}
use Rattle.lang_syntax.proofs.CanonicalStatements.{block_words, block_again, statement_again}

-- ---- literals and declarations

signed_again : (minus : Bool) (digits : ℕ) (printed : List Word) → map bare printed ≡ minus_words minus ++ numeral digits 0 ∷ [] → (at : ℕ) × after_minus minus (IsNumeral digits at) printed
signed_again true digits printed h =
    let sign = cut_mark kinds.Minus (numeral digits 0 ∷ []) printed h in
    let number = cut_numeral digits [] sign.rest sign.bare_rest in
    (number.0, (sign.front, sign.rest, sign.first, alone (IsNumeral digits number.0) sign.rest number.1, sign.is))
signed_again false digits printed h =
    let number = cut_numeral digits [] printed h in
    (number.0, alone (IsNumeral digits number.0) printed number.1)

literal_again : (literal : Lit) → Again IsLiteral unplaced_literal (unplaced_literal literal) (literal_words literal)
literal_again literal = λ printed h.
    let a = signed_again literal.minus literal.digits printed h in
    (record { at = a.0; minus = literal.minus; digits = literal.digits }, a.1, refl)

-- a declaration's words after its keyword
abbrev valued_words : List ℕ → Lit → List Word
valued_words name value = ident name 0 ∷ (mark kinds.Assign 0 ∷ (literal_words value ++ (mark kinds.Semicolon 0 ∷ [])))

record Valued (kind : TokenKind) (name : List ℕ) (value : Lit) (printed : List Word) : Type 0 where
  pub at : ℕ
  pub again : Lit
  pub derived : (IsMark kind ⌢ IsIdent name at ⌢ IsMark kinds.Assign ⌢ IsLiteral again ⌢ IsMark kinds.Semicolon) printed
  pub same : unplaced_literal again ≡ unplaced_literal value

valued_again : (kind : TokenKind) (name : List ℕ) (value : Lit) (printed : List Word) → map bare printed ≡ mark kind 0 ∷ valued_words name value → Valued kind name value printed
valued_again kind name value printed h =
    let key = cut_mark kind (valued_words name value) printed h in
    let named = cut_ident name (mark kinds.Assign 0 ∷ (literal_words value ++ (mark kinds.Semicolon 0 ∷ []))) key.rest key.bare_rest in
    let assign = cut_mark kinds.Assign (literal_words value ++ (mark kinds.Semicolon 0 ∷ [])) named.1.rest named.1.bare_rest in
    let v = cut_tree (literal_again value) (mark kinds.Semicolon 0 ∷ []) assign.rest assign.bare_rest in
    let semicolon = last_mark kinds.Semicolon v.cut.rest v.cut.bare_rest in
    record {
      at = named.0;
      again = v.again;
      derived = (key.front, key.rest, key.first, (named.1.front, named.1.rest, named.1.first, (assign.front, assign.rest, assign.first, (v.cut.front, v.cut.rest, v.cut.first, semicolon, v.cut.is), assign.is), named.1.is), key.is);
      same = v.same;
    }

flag_again : (name : List ℕ) (value : Bool) (printed : List Word) → map bare printed ≡ mark kinds.KeyBool 0 ∷ ident name 0 ∷ mark kinds.Assign 0 ∷ mark (truth_word value) 0 ∷ mark kinds.Semicolon 0 ∷ []
    → (at : ℕ) × IsDeclaration (decls.Flag at name value) printed
flag_again name value printed h =
    let key = cut_mark kinds.KeyBool (ident name 0 ∷ mark kinds.Assign 0 ∷ mark (truth_word value) 0 ∷ mark kinds.Semicolon 0 ∷ []) printed h in
    let named = cut_ident name (mark kinds.Assign 0 ∷ mark (truth_word value) 0 ∷ mark kinds.Semicolon 0 ∷ []) key.rest key.bare_rest in
    let assign = cut_mark kinds.Assign (mark (truth_word value) 0 ∷ mark kinds.Semicolon 0 ∷ []) named.1.rest named.1.bare_rest in
    let truth = cut_mark (truth_word value) (mark kinds.Semicolon 0 ∷ []) assign.rest assign.bare_rest in
    let semicolon = last_mark kinds.Semicolon truth.rest truth.bare_rest in
    (named.0, (key.front, key.rest, key.first, (named.1.front, named.1.rest, named.1.first, (assign.front, assign.rest, assign.first, (truth.front, truth.rest, truth.first, semicolon, truth.is), assign.is), named.1.is), key.is))

copied_again : (name : List ℕ) (source : PlacedName) (printed : List Word) → map bare printed ≡ mark kinds.KeyInt 0 ∷ ident name 0 ∷ mark kinds.Assign 0 ∷ ident source.name 0 ∷ mark kinds.Semicolon 0 ∷ []
    → (at : ℕ) × (from : ℕ) × IsDeclaration (decls.Copied at name (record { at = from; name = source.name })) printed
copied_again name source printed h =
    let key = cut_mark kinds.KeyInt (ident name 0 ∷ mark kinds.Assign 0 ∷ ident source.name 0 ∷ mark kinds.Semicolon 0 ∷ []) printed h in
    let named = cut_ident name (mark kinds.Assign 0 ∷ ident source.name 0 ∷ mark kinds.Semicolon 0 ∷ []) key.rest key.bare_rest in
    let assign = cut_mark kinds.Assign (ident source.name 0 ∷ mark kinds.Semicolon 0 ∷ []) named.1.rest named.1.bare_rest in
    let copied = cut_ident source.name (mark kinds.Semicolon 0 ∷ []) assign.rest assign.bare_rest in
    let semicolon = last_mark kinds.Semicolon copied.1.rest copied.1.bare_rest in
    let assigned : (IsMark kinds.Assign ⌢ IsIdent source.name copied.0 ⌢ IsMark kinds.Semicolon) named.1.rest =
    (assign.front, assign.rest, assign.first, (copied.1.front, copied.1.rest, copied.1.first, semicolon, copied.1.is), assign.is) in
    (named.0, copied.0, (key.front, key.rest, key.first, (named.1.front, named.1.rest, named.1.first, assigned, named.1.is), key.is))

same_limit : (at from : ℕ) (name : List ℕ) (sign : LimitSign) (bound other_bound : Lit) → unplaced_literal bound ≡ unplaced_literal other_bound
    → (let one : LimitTree = record { subject = record { at = at; name = name }; sign = sign; bound = bound } in
    let other : LimitTree = record { subject = record { at = from; name = name }; sign = sign; bound = other_bound } in
    unplaced_limit one ≡ unplaced_limit other)
same_limit at from name sign bound other_bound b = cc

limit_again : (limit : LimitTree) → Again IsLimit unplaced_limit (unplaced_limit limit) (limit_words limit)
limit_again limit = λ printed h.
    let end : List Word = mark kinds.CloseParen 0 ∷ [] in
    let from_sign : List Word = mark (limit_sign limit.sign) 0 ∷ (literal_words limit.bound ++ end) in
    let key = cut_ident WHERE (mark kinds.OpenParen 0 ∷ (ident limit.subject.name 0 ∷ from_sign)) printed h in
    let opening = cut_mark kinds.OpenParen (ident limit.subject.name 0 ∷ from_sign) key.1.rest key.1.bare_rest in
    let subject = cut_ident limit.subject.name from_sign opening.rest opening.bare_rest in
    let sign = cut_mark (limit_sign limit.sign) (literal_words limit.bound ++ end) subject.1.rest subject.1.bare_rest in
    let bound = cut_tree (literal_again limit.bound) end sign.rest sign.bare_rest in
    let closing = last_mark kinds.CloseParen bound.cut.rest bound.cut.bare_rest in
    let made : LimitTree = record { subject = record { at = subject.0; name = limit.subject.name }; sign = limit.sign; bound = bound.again } in
    let compared : (IsIdent limit.subject.name subject.0 ⌢ IsMark (limit_sign limit.sign) ⌢ IsLiteral bound.again ⌢ IsMark kinds.CloseParen) opening.rest =
    (subject.1.front, subject.1.rest, subject.1.first, (sign.front, sign.rest, sign.first, (bound.cut.front, bound.cut.rest, bound.cut.first, closing, bound.cut.is), sign.is), subject.1.is) in
    let whole : IsLimit made printed = (key.1.front, key.1.rest, (key.0, key.1.first), (opening.front, opening.rest, opening.first, compared, opening.is), key.1.is) in
    (made, whole, same_limit subject.0 limit.subject.at limit.subject.name limit.sign bound.again limit.bound bound.same)

regroup_parameter : (name : List ℕ) (value limit : List Word)
    → ident PARAM 0 ∷ ident name 0 ∷ mark kinds.Assign 0 ∷ value ++ limit ++ mark kinds.Semicolon 0 ∷ []
    ≡ ident PARAM 0 ∷ (ident name 0 ∷ (mark kinds.Assign 0 ∷ (value ++ (limit ++ (mark kinds.Semicolon 0 ∷ [])))))
regroup_parameter name value limit = simp append_assoc

parameter_again : (at : ℕ) (name : List ℕ) (value : Lit) (limit : LimitTree) → Again IsDeclaration unplaced_declaration (unplaced_declaration (decls.Param at name value limit)) (declaration_words (decls.Param at name value limit))
parameter_again at name value limit = λ printed h.
    let end : List Word = mark kinds.Semicolon 0 ∷ [] in
    let from_value : List Word = literal_words value ++ (limit_words limit ++ end) in
    let key = cut_ident PARAM (ident name 0 ∷ (mark kinds.Assign 0 ∷ from_value)) printed (h ∙ regroup_parameter name (literal_words value) (limit_words limit)) in
    let named = cut_ident name (mark kinds.Assign 0 ∷ from_value) key.1.rest key.1.bare_rest in
    let assign = cut_mark kinds.Assign from_value named.1.rest named.1.bare_rest in
    let v = cut_tree (literal_again value) (limit_words limit ++ end) assign.rest assign.bare_rest in
    let l = cut_tree (limit_again limit) end v.cut.rest v.cut.bare_rest in
    let semicolon = last_mark kinds.Semicolon l.cut.rest l.cut.bare_rest in
    let valued : (IsLiteral v.again ⌢ IsLimit l.again ⌢ IsMark kinds.Semicolon) assign.rest =
    (v.cut.front, v.cut.rest, v.cut.first, (l.cut.front, l.cut.rest, l.cut.first, semicolon, l.cut.is), v.cut.is) in
    let whole : IsDeclaration (decls.Param named.0 name v.again l.again) printed =
    (key.1.front, key.1.rest, (key.0, key.1.first), (named.1.front, named.1.rest, named.1.first, (assign.front, assign.rest, assign.first, valued, assign.is), named.1.is), key.1.is) in
    (decls.Param named.0 name v.again l.again, whole, ap (λ (seen : Lit). decls.Param 0 name seen (unplaced_limit l.again)) v.same ∙ ap (decls.Param 0 name (unplaced_literal value)) l.same)

declaration_again : (declaration : Decl) (ws : List Word) → IsDeclaration declaration ws → Again IsDeclaration unplaced_declaration (unplaced_declaration declaration) (declaration_words declaration)
declaration_again (decls.Const at name value) ws is = λ printed h.
    let v = valued_again kinds.KeyConst name value printed h in
    (decls.Const v.at name v.again, v.derived, ap (decls.Const 0 name) v.same)
declaration_again (decls.Param at name value limit) ws is = parameter_again at name value limit
declaration_again (decls.Int at name value) ws is = λ printed h.
    let v = valued_again kinds.KeyInt name value printed h in
    (decls.Int v.at name v.again, v.derived, ap (decls.Int 0 name) v.same)
declaration_again (decls.Copied at name source) ws is = λ printed h.
    let c = copied_again name source printed h in
    (decls.Copied c.0 name (record { at = c.1; name = source.name }), c.2, refl)
declaration_again (decls.Flag at name value) ws is = λ printed h.
    let f = flag_again name value printed h in
    (decls.Flag f.0 name value, f.1, refl)

local_again : (local : Decl) (ws : List Word) → IsLocal local ws → Again IsLocal unplaced_declaration (unplaced_declaration local) (local_words local)
local_again (decls.Const at name value) ws is = absurd is
local_again (decls.Param at name value limit) ws is = absurd is
local_again (decls.Copied at name source) ws is = absurd is
local_again (decls.Int at name value) ws is = λ printed h.
    let key = cut_mark kinds.KeyLocal (mark kinds.KeyInt 0 ∷ valued_words name value) printed h in
    let v = valued_again kinds.KeyInt name value key.rest key.bare_rest in
    (decls.Int v.at name v.again, (key.front, key.rest, key.first, v.derived, key.is), ap (decls.Int 0 name) v.same)
local_again (decls.Flag at name value) ws is = λ printed h.
    let key = cut_mark kinds.KeyLocal (mark kinds.KeyBool 0 ∷ ident name 0 ∷ mark kinds.Assign 0 ∷ mark (truth_word value) 0 ∷ mark kinds.Semicolon 0 ∷ []) printed h in
    let f = flag_again name value key.rest key.bare_rest in
    (decls.Flag f.0 name value, (key.front, key.rest, key.first, f.1, key.is), refl)

-- ---- inputs

input_again : (input : InputTree) → Again IsInput unplaced_input (unplaced_input input) (input_words input)
input_again input = λ printed h.
    let key = cut_mark (kind_word input.kind) (ident input.name 0 ∷ []) printed h in
    let named = cut_ident input.name [] key.rest key.bare_rest in
    (record { at = named.0; kind = input.kind; name = input.name }, (key.front, key.rest, key.first, alone (IsIdent input.name named.0) key.rest named.1, key.is), refl)

later_input_again : (input : InputTree) (ws : List Word) → (IsMark kinds.Comma ⌢ IsInput input) ws
    → Again (λ input. IsMark kinds.Comma ⌢ IsInput input) unplaced_input (unplaced_input input) (mark kinds.Comma 0 ∷ input_words input)
later_input_again input ws is = λ printed h.
    let comma = cut_mark kinds.Comma (input_words input) printed h in
    let a = input_again input comma.rest comma.bare_rest in
    (a.0, (comma.front, comma.rest, comma.first, a.1, comma.is), a.2)

inputs_again : (inputs : List InputTree) (ws : List Word) → AreInputs inputs ws → Again AreInputs (map unplaced_input) (map unplaced_input inputs) (inputs_words inputs)
inputs_again [] ws is = λ printed h. ([], no_words printed h, refl)
inputs_again (first ∷ rest) ws is = λ printed h.
    let one = cut_tree (input_again first) (flat_map (λ input. mark kinds.Comma 0 ∷ input_words input) rest) printed h in
    let others =
    each_again (λ input. IsMark kinds.Comma ⌢ IsInput input) (λ input. IsMark kinds.Comma ⌢ IsInput input) unplaced_input (λ input. mark kinds.Comma 0 ∷ input_words input) later_input_again rest is.1 is.3
    one.cut.rest one.cut.bare_rest in
    (one.again ∷ others.0, (one.cut.front, one.cut.rest, one.cut.first, others.1, one.cut.is), ap (λ seen. seen ∷ map unplaced_input others.0) one.same ∙ ap (λ seen. unplaced_input first ∷ seen) others.2)

-- ---- methods

-- a block by the rules of the word that opens it, of its guard and of its statements
abbrev IsBlockBy : Rule ℕ → Rule Expr → Rule StmtTree → Rule BlockTree
IsBlockBy IsOpening IsGuard IsStatement block =
    IsOpening block.at ⌢ IsMark kinds.OpenParen ⌢ IsGuard block.guard ⌢ IsMark kinds.CloseParen ⌢ IsBlock IsStatement block.body

-- a block's words from its guard on, grouped from the right
abbrev from_guard : BlockTree → List Word
from_guard block = expression_words block.guard ++ (mark kinds.CloseParen 0 ∷ block_words block.body)

regroup_block : (opening : Word) (guard body : List Word)
    → opening ∷ mark kinds.OpenParen 0 ∷ guard ++ mark kinds.CloseParen 0 ∷ mark kinds.OpenBrace 0 ∷ body ++ mark kinds.CloseBrace 0 ∷ []
    ≡ opening ∷ (mark kinds.OpenParen 0 ∷ (guard ++ (mark kinds.CloseParen 0 ∷ (mark kinds.OpenBrace 0 ∷ (body ++ (mark kinds.CloseBrace 0 ∷ []))))))
regroup_block opening guard body = simp append_assoc

same_block : (at : ℕ) (guard other_guard : Expr) (body other_body : List StmtTree)
    → unplaced_expression guard ≡ unplaced_expression other_guard → map unplaced_statement body ≡ map unplaced_statement other_body
    → (let one : BlockTree = record { at = at; guard = guard; body = body } in
    let other : BlockTree = record { at = at; guard = other_guard; body = other_body } in
    unplaced_block one ≡ unplaced_block other)
same_block at guard other_guard body other_body g b = cc

block_again_by : (IsOpening : Rule ℕ) (opening : Word) (IsGuard : Rule Expr) (IsStatement : Rule StmtTree)
    → ((us printed : List Word) → map bare printed ≡ opening ∷ us → (at : ℕ) × Cut (IsOpening at) us printed)
    → ((guard : Expr) (ws : List Word) → IsGuard guard ws → Again IsGuard unplaced_expression (unplaced_expression guard) (expression_words guard))
    → ((statement : StmtTree) (ws : List Word) → IsStatement statement ws → Again IsStatement unplaced_statement (unplaced_statement statement) (statement_words statement))
    → (block : BlockTree) (ws : List Word) → IsBlockBy IsOpening IsGuard IsStatement block ws
    → Again (IsBlockBy IsOpening IsGuard IsStatement) unplaced_block (unplaced_block block) (guarded_words opening block)
block_again_by IsOpening opening IsGuard IsStatement opens guards inner block ws is = λ printed h.
    let at_guard = is.3.3 in
    let first = opens (mark kinds.OpenParen 0 ∷ from_guard block) printed (h ∙ regroup_block opening (expression_words block.guard) (flat_map statement_words block.body)) in
    let paren = cut_mark kinds.OpenParen (from_guard block) first.1.rest first.1.bare_rest in
    let g = cut_tree (guards block.guard at_guard.0 at_guard.2) (mark kinds.CloseParen 0 ∷ block_words block.body) paren.rest paren.bare_rest in
    let closing = cut_mark kinds.CloseParen (block_words block.body) g.cut.rest g.cut.bare_rest in
    let b = block_again IsStatement inner block.body at_guard.3.1 at_guard.3.3 closing.rest closing.bare_rest in
    let made : BlockTree = record { at = first.0; guard = g.again; body = b.0 } in
    let whole : IsBlockBy IsOpening IsGuard IsStatement made printed =
    (first.1.front, first.1.rest, first.1.first, (paren.front, paren.rest, paren.first, (g.cut.front, g.cut.rest, g.cut.first, (closing.front, closing.rest, closing.first, b.1, closing.is), g.cut.is), paren.is), first.1.is) in
    (made, whole, same_block first.0 g.again block.guard b.0 block.body g.same b.2)

guarded_again : (block : BlockTree) (ws : List Word) → IsGuarded block ws → Again IsGuarded unplaced_block (unplaced_block block) (guarded_words (mark kinds.KeyWaituntil 0) block)
guarded_again block ws is =
    block_again_by (λ at. IsMarkAt kinds.KeyWaituntil at) (mark kinds.KeyWaituntil 0) (IsExpression LEVELS) (IsStatement LEVELS) (cut_mark_at kinds.KeyWaituntil) (expression_again LEVELS) (statement_again LEVELS) block ws is

asserted_again : (block : BlockTree) (ws : List Word) → IsAsserted block ws → Again IsAsserted unplaced_block (unplaced_block block) (guarded_words (ident ASSERTS 0) block)
asserted_again block ws is =
    block_again_by (λ at. IsIdent ASSERTS at) (ident ASSERTS 0) (IsExpression LEVELS) (IsStatement LEVELS) (cut_ident ASSERTS) (expression_again LEVELS) (statement_again LEVELS) block ws is

single_again : (IsItem : Rule BlockTree) (words : BlockTree → List Word) → ((block : BlockTree) (ws : List Word) → IsItem block ws → Again IsItem unplaced_block (unplaced_block block) (words block))
    → (blocks : List BlockTree) (ws : List Word) → Single IsItem blocks ws → Again (Single IsItem) (map unplaced_block) (map unplaced_block blocks) (flat_map words blocks)
single_again IsItem words again [] ws is = absurd is
single_again IsItem words again (block ∷ []) ws is = λ printed h.
    let one = again block ws is printed (h ∙ append-nil (words block)) in
    (one.0 ∷ [], one.1, ap (λ seen. seen ∷ []) one.2)
single_again IsItem words again (block ∷ (next ∷ more)) ws is = absurd is

blocks_again : (asserts : Bool) (blocks : List BlockTree) (ws : List Word) → AreBlocks asserts blocks ws
    → Again (AreBlocks asserts) (map unplaced_block) (map unplaced_block blocks) (flat_map (guarded_words (opening_word asserts)) blocks)
blocks_again false blocks ws is = more_again IsGuarded IsGuarded unplaced_block (guarded_words (mark kinds.KeyWaituntil 0)) guarded_again blocks ws is
blocks_again true blocks ws is = single_again IsAsserted (guarded_words (ident ASSERTS 0)) asserted_again blocks ws is

-- a method by the rule of its blocks
abbrev IsMethodBy : (Bool → Rule (List BlockTree)) → Rule MethodTree
IsMethodBy AreItems method =
    IsMark kinds.KeyMethod ⌢ IsIdent method.name method.at ⌢ IsMark kinds.OpenParen ⌢ AreInputs method.inputs ⌢ IsMark kinds.CloseParen
    ⌢ Each IsLocal method.locals ⌢ AreItems method.asserts method.blocks

-- a method's words from its locals on, and from its inputs on, grouped from the right
abbrev words_of_blocks : MethodTree → List Word
words_of_blocks method = flat_map (guarded_words (opening_word method.asserts)) method.blocks

abbrev from_locals : MethodTree → List Word
from_locals method = flat_map local_words method.locals ++ words_of_blocks method

abbrev from_inputs : MethodTree → List Word
from_inputs method = inputs_words method.inputs ++ (mark kinds.CloseParen 0 ∷ from_locals method)

regroup_method : (name : List ℕ) (inputs locals blocks : List Word)
    → mark kinds.KeyMethod 0 ∷ ident name 0 ∷ mark kinds.OpenParen 0 ∷ inputs ++ mark kinds.CloseParen 0 ∷ locals ++ blocks
    ≡ mark kinds.KeyMethod 0 ∷ (ident name 0 ∷ (mark kinds.OpenParen 0 ∷ (inputs ++ (mark kinds.CloseParen 0 ∷ (locals ++ blocks)))))
regroup_method name inputs locals blocks = simp append_assoc

same_method : (asserts : Bool) (at : ℕ) (name : List ℕ) (inputs other_inputs : List InputTree) (locals other_locals : List Decl) (blocks other_blocks : List BlockTree)
    → map unplaced_input inputs ≡ map unplaced_input other_inputs → map unplaced_declaration locals ≡ map unplaced_declaration other_locals → map unplaced_block blocks ≡ map unplaced_block other_blocks
    → (let one : MethodTree = record { at = at; name = name; inputs = inputs; locals = locals; asserts = asserts; blocks = blocks } in
    let other : MethodTree = record { at = at; name = name; inputs = other_inputs; locals = other_locals; asserts = asserts; blocks = other_blocks } in
    unplaced_method one ≡ unplaced_method other)
same_method asserts at name inputs other_inputs locals other_locals blocks other_blocks i l b = cc

method_again_by : (AreItems : Bool → Rule (List BlockTree))
    → ((asserts : Bool) (blocks : List BlockTree) (ws : List Word) → AreItems asserts blocks ws → Again (AreItems asserts) (map unplaced_block) (map unplaced_block blocks) (flat_map (guarded_words (opening_word asserts)) blocks))
    → (method : MethodTree) (ws : List Word) → IsMethodBy AreItems method ws → Again (IsMethodBy AreItems) unplaced_method (unplaced_method method) (method_words method)
method_again_by AreItems again method ws is = λ printed h.
    let at_inputs = is.3.3.3 in
    let at_locals = at_inputs.3.3 in
    let key = cut_mark kinds.KeyMethod (ident method.name 0 ∷ (mark kinds.OpenParen 0 ∷ from_inputs method)) printed (h ∙ regroup_method method.name (inputs_words method.inputs) (flat_map local_words method.locals) (words_of_blocks method)) in
    let named = cut_ident method.name (mark kinds.OpenParen 0 ∷ from_inputs method) key.rest key.bare_rest in
    let opening = cut_mark kinds.OpenParen (from_inputs method) named.1.rest named.1.bare_rest in
    let i = cut_tree (inputs_again method.inputs at_inputs.0 at_inputs.2) (mark kinds.CloseParen 0 ∷ from_locals method) opening.rest opening.bare_rest in
    let closing = cut_mark kinds.CloseParen (from_locals method) i.cut.rest i.cut.bare_rest in
    let l = cut_tree (each_again IsLocal IsLocal unplaced_declaration local_words local_again method.locals at_locals.0 at_locals.2) (words_of_blocks method) closing.rest closing.bare_rest in
    let b = again method.asserts method.blocks at_locals.1 at_locals.3 l.cut.rest l.cut.bare_rest in
    let made : MethodTree = record { at = named.0; name = method.name; inputs = i.again; locals = l.again; asserts = method.asserts; blocks = b.0 } in
    let locals_on : (Each IsLocal l.again ⌢ AreItems method.asserts b.0) closing.rest = (l.cut.front, l.cut.rest, l.cut.first, b.1, l.cut.is) in
    let whole : IsMethodBy AreItems made printed =
    (key.front, key.rest, key.first, (named.1.front, named.1.rest, named.1.first, (opening.front, opening.rest, opening.first, (i.cut.front, i.cut.rest, i.cut.first, (closing.front, closing.rest, closing.first, locals_on, closing.is), i.cut.is), opening.is), named.1.is), key.is) in
    (made, whole, same_method method.asserts named.0 method.name i.again method.inputs l.again method.locals b.0 method.blocks i.same l.same b.2)

method_again : (method : MethodTree) (ws : List Word) → IsMethod method ws → Again IsMethod unplaced_method (unplaced_method method) (method_words method)
method_again method ws is = method_again_by AreBlocks blocks_again method ws is

-- ---- files

regroup_file : (name : List ℕ) (declarations methods : List Word)
    → mark kinds.KeyMonitor 0 ∷ ident name 0 ∷ mark kinds.OpenBrace 0 ∷ declarations ++ methods ++ mark kinds.CloseBrace 0 ∷ []
    ≡ mark kinds.KeyMonitor 0 ∷ (ident name 0 ∷ (mark kinds.OpenBrace 0 ∷ (declarations ++ (methods ++ (mark kinds.CloseBrace 0 ∷ [])))))
regroup_file name declarations methods = simp append_assoc

same_file : (name : List ℕ) (decls other_decls : List Decl) (methods other_methods : List MethodTree)
    → map unplaced_declaration decls ≡ map unplaced_declaration other_decls → map unplaced_method methods ≡ map unplaced_method other_methods
    → (let one : MonitorTree = record { name = name; decls = decls; methods = methods } in
    let other : MonitorTree = record { name = name; decls = other_decls; methods = other_methods } in
    unplaced one ≡ unplaced other)
same_file name decls other_decls methods other_methods d m = cc

-- The canonical words of a derived tree, at any offsets, derive the same tree but for offsets.
pub canonical_derives : (ws : List Word) (tree : MonitorTree) → IsMonitorFile tree ws → (printed : List Word) → map bare printed ≡ tree_words tree
    → (again : MonitorTree) × IsMonitorFile again printed × (unplaced again ≡ unplaced tree)
canonical_derives ws tree is printed h =
    let at_decls = is.1.3.3.3 in
    let end : List Word = mark kinds.CloseBrace 0 ∷ [] in
    let from_methods : List Word = flat_map method_words tree.methods ++ end in
    let from_decls : List Word = flat_map declaration_words tree.decls ++ from_methods in
    let key = cut_mark kinds.KeyMonitor (ident tree.name 0 ∷ (mark kinds.OpenBrace 0 ∷ from_decls)) printed (h ∙ regroup_file tree.name (flat_map declaration_words tree.decls) (flat_map method_words tree.methods)) in
    let named = cut_ident tree.name (mark kinds.OpenBrace 0 ∷ from_decls) key.rest key.bare_rest in
    let opening = cut_mark kinds.OpenBrace from_decls named.1.rest named.1.bare_rest in
    let d = cut_tree (each_again IsDeclaration IsDeclaration unplaced_declaration declaration_words declaration_again tree.decls at_decls.0 at_decls.2) from_methods opening.rest opening.bare_rest in
    let methods = each_again IsMethod IsMethod unplaced_method method_words method_again tree.methods at_decls.3.0 at_decls.3.2 in
    let m = cut_tree methods end d.cut.rest d.cut.bare_rest in
    let closing = last_mark kinds.CloseBrace m.cut.rest m.cut.bare_rest in
    let made : MonitorTree = record { name = tree.name; decls = d.again; methods = m.again } in
    let whole : IsMonitorFile made printed = (
      named.0,
      (key.front, key.rest, key.first, (named.1.front, named.1.rest, named.1.first, (opening.front, opening.rest, opening.first, (d.cut.front, d.cut.rest, d.cut.first, (m.cut.front, m.cut.rest, m.cut.first, closing, m.cut.is), d.cut.is), opening.is), named.1.is), key.is),
    ) in
    (made, whole, same_file tree.name d.again tree.decls m.again tree.methods d.same m.same)
