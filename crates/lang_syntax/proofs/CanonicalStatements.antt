-- The canonical words of a statement, whatever their offsets, derive it again.
use Rattle.std.proofs.Common.{◌≡◌, ℕ, zero, suc, inl, inr, List, [], ◌∷◌, ◌++◌, map, refl, sym, ap, subst, ◌∙◌, append_assoc}
use Rattle.std.specs.List.{flat_map}
use Rattle.std.proofs.lemmas.List.Folds.{flat_map-map}
use Rattle.lang_tokens.specs.declared.token.TokenKind.TheVariants as kinds
use Rattle.lang_tree.specs.declared.tree.Expr.{Expr}
use Rattle.lang_tree.specs.declared.tree.StmtTree.{StmtTree}
use Rattle.lang_tree.specs.declared.tree.StmtTree.TheVariants as statements
use Rattle.lang_tree.specs.declared.tree.StmtTree.TheOpen as layers
use Rattle.lang_tree.specs.declared.tree.StmtTree.TheFolds.{fold-roll-StmtTree}
use Rattle.lang_tokens.specs.Words.{Word, ident, mark}
use Rattle.lang_syntax.specs.Grammar.{Rule, ◌⌢◌, IsMark, IsMarkAt, IsExpression, IsBlock, IsElse, IsSimple, IsIf, IsStatement}
use Rattle.lang_tree.specs.Offsets.{unplaced_expression, unplaced_statement, statement_step}
use Rattle.lang_syntax.proofs.CanonicalWords.{expression_words, statement_words, statement_words_step, else_words}
use Rattle.lang_syntax.proofs.PrintedWords.{Again, each_again, no_words, cut_mark, cut_mark_at, cut_ident, cut_tree, last_mark}
use Rattle.lang_syntax.proofs.CanonicalExpressions.{expression_again}

-- ---- the forms

abbrev pub block_words : List StmtTree → List Word
block_words body = mark kinds.OpenBrace 0 ∷ (flat_map statement_words body ++ (mark kinds.CloseBrace 0 ∷ []))

abbrev other_words : List StmtTree → List Word
other_words [] = []
other_words (first ∷ rest) = mark kinds.KeyElse 0 ∷ block_words (first ∷ rest)

words_Set : (at : ℕ) (name : List ℕ) (value : Expr) → statement_words (statements.Set at name value) ≡ ident name 0 ∷ (mark kinds.Assign 0 ∷ (expression_words value ++ (mark kinds.Semicolon 0 ∷ [])))
words_Set at name value = ap statement_words (sym (statements.rolls-Set at name value)) ∙ fold-roll-StmtTree (List Word) statement_words_step (layers.Set at name value)

words_Return : (at : ℕ) (value : Expr) → statement_words (statements.Return at value) ≡ mark kinds.KeyReturn 0 ∷ (expression_words value ++ (mark kinds.Semicolon 0 ∷ []))
words_Return at value = ap statement_words (sym (statements.rolls-Return at value)) ∙ fold-roll-StmtTree (List Word) statement_words_step (layers.Return at value)

-- the words of a condition, a body and what follows, grouped from the right
abbrev if_words : List Word → List Word → List Word → List Word
if_words when block other = mark kinds.KeyIf 0 ∷ (mark kinds.OpenParen 0 ∷ (when ++ (mark kinds.CloseParen 0 ∷ (block ++ other))))

regroup_if : (when body other : List Word)
    → mark kinds.KeyIf 0 ∷ mark kinds.OpenParen 0 ∷ when ++ mark kinds.CloseParen 0 ∷ mark kinds.OpenBrace 0 ∷ body ++ mark kinds.CloseBrace 0 ∷ other
    ≡ if_words when (mark kinds.OpenBrace 0 ∷ (body ++ (mark kinds.CloseBrace 0 ∷ []))) other
regroup_if when body other =
    ap (λ ws. mark kinds.KeyIf 0 ∷ mark kinds.OpenParen 0 ∷ ws) (append_assoc when (mark kinds.CloseParen 0 ∷ mark kinds.OpenBrace 0 ∷ body) (mark kinds.CloseBrace 0 ∷ other))
    ∙ ap (λ ws. mark kinds.KeyIf 0 ∷ mark kinds.OpenParen 0 ∷ when ++ mark kinds.CloseParen 0 ∷ mark kinds.OpenBrace 0 ∷ ws) (sym (append_assoc body (mark kinds.CloseBrace 0 ∷ []) other))

words_map : (body : List StmtTree) → flat_map (λ words. words) (map statement_words body) ≡ flat_map statement_words body
words_map body = flat_map-map (λ (words : List Word). words) statement_words body

else_map : (other : List StmtTree) → else_words (map statement_words other) ≡ other_words other
else_map [] = refl
else_map (first ∷ rest) = ap (λ ws. mark kinds.KeyElse 0 ∷ mark kinds.OpenBrace 0 ∷ ws ++ mark kinds.CloseBrace 0 ∷ []) (words_map (first ∷ rest))

words_If : (at : ℕ) (when : Expr) (body other : List StmtTree) → statement_words (statements.If at when body other) ≡ if_words (expression_words when) (block_words body) (other_words other)
words_If at when body other =
    ap statement_words (sym (statements.rolls-If at when body other))
    ∙ fold-roll-StmtTree (List Word) statement_words_step (layers.If at when body other)
    ∙ regroup_if (expression_words when) (flat_map (λ words. words) (map statement_words body)) (else_words (map statement_words other))
    ∙ ap (λ ws. if_words (expression_words when) (mark kinds.OpenBrace 0 ∷ (ws ++ (mark kinds.CloseBrace 0 ∷ []))) (else_words (map statement_words other))) (words_map body)
    ∙ ap (if_words (expression_words when) (block_words body)) (else_map other)

unplaced_Set : (at : ℕ) (name : List ℕ) (value : Expr) → unplaced_statement (statements.Set at name value) ≡ statements.Set 0 name (unplaced_expression value)
unplaced_Set at name value = ap unplaced_statement (sym (statements.rolls-Set at name value)) ∙ fold-roll-StmtTree StmtTree statement_step (layers.Set at name value)

unplaced_Return : (at : ℕ) (value : Expr) → unplaced_statement (statements.Return at value) ≡ statements.Return 0 (unplaced_expression value)
unplaced_Return at value = ap unplaced_statement (sym (statements.rolls-Return at value)) ∙ fold-roll-StmtTree StmtTree statement_step (layers.Return at value)

unplaced_If : (at : ℕ) (when : Expr) (body other : List StmtTree)
    → unplaced_statement (statements.If at when body other) ≡ statements.If 0 (unplaced_expression when) (map unplaced_statement body) (map unplaced_statement other)
unplaced_If at when body other = ap unplaced_statement (sym (statements.rolls-If at when body other)) ∙ fold-roll-StmtTree StmtTree statement_step (layers.If at when body other)

seen_If : (at : ℕ) (when seen : Expr) (body other bodies others : List StmtTree) → unplaced_expression when ≡ seen → map unplaced_statement body ≡ bodies → map unplaced_statement other ≡ others
    → unplaced_statement (statements.If at when body other) ≡ statements.If 0 seen bodies others
seen_If at when seen body other bodies others w b o =
    unplaced_If at when body other
    ∙ ap (λ e. statements.If 0 e (map unplaced_statement body) (map unplaced_statement other)) w
    ∙ ap (λ l. statements.If 0 seen l (map unplaced_statement other)) b
    ∙ ap (statements.If 0 seen bodies) o

-- ---- the statements

abbrev IsAgain : Rule StmtTree → StmtTree → Type 0
IsAgain IsStatement statement = Again IsStatement unplaced_statement (unplaced_statement statement) (statement_words statement)

abbrev AllAgain : Rule StmtTree → Type 0
AllAgain IsStatement = (statement : StmtTree) (ws : List Word) → IsStatement statement ws → IsAgain IsStatement statement

-- a statement of this form
is_form : (IsStatement : Rule StmtTree) (statement written seen : StmtTree) (words : List Word) → statement ≡ written → statement_words written ≡ words → unplaced_statement written ≡ seen
    → Again IsStatement unplaced_statement seen words → IsAgain IsStatement statement
is_form IsStatement statement written seen words is spells sees again =
    subst (IsAgain IsStatement) (sym is) (subst (λ ws. Again IsStatement unplaced_statement (unplaced_statement written) ws) (sym spells) (subst (λ v. Again IsStatement unplaced_statement v words) (sym sees) again))

simple_again : (levels : ℕ) → AllAgain (IsSimple levels)
simple_again levels statement ws (inl is) =
    let value = expression_again levels is.2 is.4.3.3.0 is.4.3.3.2 in
    is_form (IsSimple levels) statement (statements.Set is.0 is.1 is.2) (statements.Set 0 is.1 (unplaced_expression is.2)) (ident is.1 0 ∷ (mark kinds.Assign 0 ∷ (expression_words is.2 ++ (mark kinds.Semicolon 0 ∷ []))))
    is.3 (words_Set is.0 is.1 is.2) (unplaced_Set is.0 is.1 is.2)
    (λ printed h.
    let name = cut_ident is.1 (mark kinds.Assign 0 ∷ (expression_words is.2 ++ (mark kinds.Semicolon 0 ∷ []))) printed h in
    let assign = cut_mark kinds.Assign (expression_words is.2 ++ (mark kinds.Semicolon 0 ∷ [])) name.1.rest name.1.bare_rest in
    let v = cut_tree value (mark kinds.Semicolon 0 ∷ []) assign.rest assign.bare_rest in
    let semicolon = last_mark kinds.Semicolon v.cut.rest v.cut.bare_rest in
    let whole : IsSimple levels (statements.Set name.0 is.1 v.again) printed =
    inl (name.0, is.1, v.again, refl, (name.1.front, name.1.rest, name.1.first, (assign.front, assign.rest, assign.first, (v.cut.front, v.cut.rest, v.cut.first, semicolon, v.cut.is), assign.is), name.1.is)) in
    (statements.Set name.0 is.1 v.again, whole, unplaced_Set name.0 is.1 v.again ∙ ap (statements.Set 0 is.1) v.same))
simple_again levels statement ws (inr is) =
    let value = expression_again levels is.1 is.3.3.0 is.3.3.2 in
    is_form (IsSimple levels) statement (statements.Return is.0 is.1) (statements.Return 0 (unplaced_expression is.1)) (mark kinds.KeyReturn 0 ∷ (expression_words is.1 ++ (mark kinds.Semicolon 0 ∷ [])))
    is.2 (words_Return is.0 is.1) (unplaced_Return is.0 is.1)
    (λ printed h.
    let key = cut_mark_at kinds.KeyReturn (expression_words is.1 ++ (mark kinds.Semicolon 0 ∷ [])) printed h in
    let v = cut_tree value (mark kinds.Semicolon 0 ∷ []) key.1.rest key.1.bare_rest in
    let semicolon = last_mark kinds.Semicolon v.cut.rest v.cut.bare_rest in
    let whole : IsSimple levels (statements.Return key.0 v.again) printed =
    inr (key.0, v.again, refl, (key.1.front, key.1.rest, key.1.first, (v.cut.front, v.cut.rest, v.cut.first, semicolon, v.cut.is), key.1.is)) in
    (statements.Return key.0 v.again, whole, unplaced_Return key.0 v.again ∙ ap (statements.Return 0) v.same))

pub block_again : (IsStatement : Rule StmtTree) → AllAgain IsStatement → (body : List StmtTree) (ws : List Word) → IsBlock IsStatement body ws
    → Again (IsBlock IsStatement) (map unplaced_statement) (map unplaced_statement body) (block_words body)
block_again IsStatement again body ws is = λ printed h.
    let opening = cut_mark kinds.OpenBrace (flat_map statement_words body ++ (mark kinds.CloseBrace 0 ∷ [])) printed h in
    let row = cut_tree (each_again IsStatement IsStatement unplaced_statement statement_words again body is.3.0 is.3.2) (mark kinds.CloseBrace 0 ∷ []) opening.rest opening.bare_rest in
    let closing = last_mark kinds.CloseBrace row.cut.rest row.cut.bare_rest in
    (row.again, (opening.front, opening.rest, opening.first, (row.cut.front, row.cut.rest, row.cut.first, closing, row.cut.is), opening.is), row.same)

-- an empty block after `else` is left out
else_again : (IsStatement : Rule StmtTree) → AllAgain IsStatement → (other : List StmtTree) (ws : List Word) → IsElse IsStatement other ws
    → Again (IsElse IsStatement) (map unplaced_statement) (map unplaced_statement other) (other_words other)
else_again IsStatement again [] ws is = λ printed h. ([], inl (refl, no_words printed h), refl)
else_again IsStatement again (first ∷ rest) ws (inl is) = let none = is.0 in absurd cc
else_again IsStatement again (first ∷ rest) ws (inr is) = λ printed h.
    let key = cut_mark kinds.KeyElse (block_words (first ∷ rest)) printed h in
    let block = block_again IsStatement again (first ∷ rest) is.1 is.3 key.rest key.bare_rest in
    (block.0, inr (key.front, key.rest, key.first, block.1, key.is), block.2)

is_if : (levels : ℕ) (IsInner : Rule StmtTree) (at : ℕ) (when : Expr) (body other : List StmtTree) (ws : List Word)
    → (IsMarkAt kinds.KeyIf at ⌢ IsMark kinds.OpenParen ⌢ IsExpression levels when ⌢ IsMark kinds.CloseParen ⌢ IsBlock IsInner body ⌢ IsElse IsInner other) ws → IsIf levels IsInner (statements.If at when body other) ws
is_if levels IsInner at when body other ws parts = (at, when, body, other, refl, parts)

if_again : (levels : ℕ) (IsInner : Rule StmtTree) → AllAgain IsInner → AllAgain (IsIf levels IsInner)
if_again levels IsInner again statement ws is =
    let parts = is.5.3 in
    let when = expression_again levels is.1 parts.3.0 parts.3.2 in
    let block = block_again IsInner again is.2 parts.3.3.3.0 parts.3.3.3.2 in
    let other = else_again IsInner again is.3 parts.3.3.3.1 parts.3.3.3.3 in
    is_form (IsIf levels IsInner) statement (statements.If is.0 is.1 is.2 is.3) (statements.If 0 (unplaced_expression is.1) (map unplaced_statement is.2) (map unplaced_statement is.3))
    (if_words (expression_words is.1) (block_words is.2) (other_words is.3)) is.4 (words_If is.0 is.1 is.2 is.3) (unplaced_If is.0 is.1 is.2 is.3)
    (λ printed h.
    let key = cut_mark_at kinds.KeyIf (mark kinds.OpenParen 0 ∷ (expression_words is.1 ++ (mark kinds.CloseParen 0 ∷ (block_words is.2 ++ other_words is.3)))) printed h in
    let opening = cut_mark kinds.OpenParen (expression_words is.1 ++ (mark kinds.CloseParen 0 ∷ (block_words is.2 ++ other_words is.3))) key.1.rest key.1.bare_rest in
    let w = cut_tree when (mark kinds.CloseParen 0 ∷ (block_words is.2 ++ other_words is.3)) opening.rest opening.bare_rest in
    let closing = cut_mark kinds.CloseParen (block_words is.2 ++ other_words is.3) w.cut.rest w.cut.bare_rest in
    let b = cut_tree block (other_words is.3) closing.rest closing.bare_rest in
    let o = other b.cut.rest b.cut.bare_rest in
    let made = statements.If key.0 w.again b.again o.0 in
    let whole = is_if levels IsInner key.0 w.again b.again o.0 printed
    (key.1.front, key.1.rest, key.1.first, (opening.front, opening.rest, opening.first, (w.cut.front, w.cut.rest, w.cut.first, (closing.front, closing.rest, closing.first, (b.cut.front, b.cut.rest, b.cut.first, o.1, b.cut.is), closing.is), w.cut.is), opening.is), key.1.is) in
    (made, whole, seen_If key.0 w.again (unplaced_expression is.1) b.again o.0 (map unplaced_statement is.2) (map unplaced_statement is.3) w.same b.same o.2))

-- The canonical words of a derived statement, at any offsets, derive the same statement but for
-- offsets.
pub statement_again : (levels : ℕ) → AllAgain (IsStatement levels)
statement_again zero statement ws is = simple_again zero statement ws is
statement_again (suc levels) statement ws (inl is) = λ printed h.
    let a = simple_again (suc levels) statement ws is printed h in
    (a.0, inl a.1, a.2)
statement_again (suc levels) statement ws (inr is) = λ printed h.
    let a = if_again (suc levels) (IsStatement levels) (statement_again levels) statement ws is printed h in
    (a.0, inr a.1, a.2)
