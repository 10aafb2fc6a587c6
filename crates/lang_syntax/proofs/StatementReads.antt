-- The readers of statements, level by level over the reader of a block's statements.
use Rattle.std.proofs.Common.{◌≡◌, ℕ, zero, suc, true, false, List, [], ◌∷◌, ◌++◌, refl, ap, ◌∙◌, inl, inr}
use Rattle.std.specs.Prelude.{◌⊎◌}
use Rattle.lang_tokens.specs.declared.token.TokenKind.TheVariants as kinds
use Rattle.lang_tree.specs.declared.tree.Expr.{Expr}
use Rattle.lang_tree.specs.declared.tree.StmtTree.{StmtTree}
use Rattle.lang_tree.specs.declared.tree.StmtTree.TheVariants as statements
use Rattle.lang_tokens.specs.Words.{Word, ident, numeral, mark}
use Rattle.lang_syntax.specs.Grammar.{Rule, ◌⌢◌, IsIdent, IsMarkAt, IsMark, IsExpression, IsBlock, IsElse, IsSimple, IsIf, IsStatement}
use Rattle.lang_cursor.specs.Reading.{Read, ◌⊗◌, made_at, choice_at, pure_at, placed_at, mark_at, ident_at, begins, begins_ident}
use Rattle.lang_syntax.specs.inner.Reading.{begins_statement, expression_at, condition_at, block_at, else_of, else_at, set_of, set_at, return_of, return_at, if_of, if_at, simple_at, statement_at}
use Rattle.lang_syntax.proofs.Readers.{Reads, Anything, Both, pair_reads, made_reads, pure_reads, choice_reads, before}
use Rattle.lang_syntax.proofs.WordReads.{IsPlacedName, begins_heads, statement_heads}
use Rattle.lang_syntax.proofs.Openings.{Opens, At, mark_opens, placed_opens, ident_opens, then_opens, begins_at}
use Rattle.lang_syntax.proofs.Sequences.{three_right, three_left, within_second, same_reads, mark_then, placed_then, ident_then, then_mark, braces_reads}
use Rattle.lang_syntax.proofs.ExpressionReads.{NoOr, semicolon_no_or, IsParenthesized, parentheses_read, expression_reads}

abbrev pub NoElse : List Word → Type 0
NoElse ws = begins kinds.KeyElse ws ≡ false

pub condition_reads : (levels : ℕ) → Reads (IsParenthesized (IsExpression levels)) (condition_at levels) Anything
unfolding condition_at
condition_reads levels = parentheses_read (IsExpression levels) (expression_at levels) (expression_reads levels)

-- ---- statements of one line

-- an expression and the semicolon after it
value_reads : (levels : ℕ) → Reads (Both (IsExpression levels) (λ (unit : Unit {0}). IsMark kinds.Semicolon)) (expression_at levels ⊗ mark_at kinds.Semicolon) Anything
value_reads levels = then_mark kinds.Semicolon (IsExpression levels) (expression_at levels) NoOr (expression_reads levels) semicolon_no_or

abbrev IsSet : ℕ → Rule StmtTree
IsSet levels statement ws =
    (at : ℕ) × (name : List ℕ) × (value : Expr) × (statement ≡ statements.Set at name value)
    × (IsIdent name at ⌢ IsMark kinds.Assign ⌢ IsExpression levels value ⌢ IsMark kinds.Semicolon) ws

set_reads : (levels : ℕ) → Reads (IsSet levels) (set_at levels) Anything
unfolding set_at
set_reads levels =
    made_reads (Both IsPlacedName IsAssigned) (ident_at ⊗ mark_at kinds.Assign ⊗ expression_at levels ⊗ mark_at kinds.Semicolon) Anything set_of (IsSet levels)
    (ident_then IsAssigned (mark_at kinds.Assign ⊗ expression_at levels ⊗ mark_at kinds.Semicolon) Anything (mark_then kinds.Assign IsValue (expression_at levels ⊗ mark_at kinds.Semicolon) Anything (value_reads levels)))
    (λ x ws p. (x.0.at, x.0.name, x.1.1.0, refl, p))
    (λ y ws p. ((record { at = p.0; name = p.1 }, (tt, (p.2, tt))), p.3, p.4))
  where
    IsValue : Rule (Expr × Unit {0})
    IsValue = Both (IsExpression levels) (λ (unit : Unit {0}). IsMark kinds.Semicolon)

    IsAssigned : Rule (Unit {0} × (Expr × Unit {0}))
    IsAssigned = Both (λ (unit : Unit {0}). IsMark kinds.Assign) IsValue

abbrev IsReturn : ℕ → Rule StmtTree
IsReturn levels statement ws =
    (at : ℕ) × (value : Expr) × (statement ≡ statements.Return at value) × (IsMarkAt kinds.KeyReturn at ⌢ IsExpression levels value ⌢ IsMark kinds.Semicolon) ws

return_reads : (levels : ℕ) → Reads (IsReturn levels) (return_at levels) Anything
unfolding return_at
return_reads levels =
    made_reads (Both (λ (at : ℕ). IsMarkAt kinds.KeyReturn at) IsValue) (placed_at kinds.KeyReturn ⊗ expression_at levels ⊗ mark_at kinds.Semicolon) Anything return_of (IsReturn levels)
    (placed_then kinds.KeyReturn IsValue (expression_at levels ⊗ mark_at kinds.Semicolon) Anything (value_reads levels))
    (λ x ws p. (x.0, x.1.0, refl, p))
    (λ y ws p. ((p.0, (p.1, tt)), p.2, p.3))
  where
    IsValue : Rule (Expr × Unit {0})
    IsValue = Both (IsExpression levels) (λ (unit : Unit {0}). IsMark kinds.Semicolon)

set_opens : (levels : ℕ) (Fact : List Word → Type 0) → ((name : List ℕ) (at : ℕ) (rest : List Word) → Fact (ident name at ∷ rest)) → (x : StmtTree) → Opens (IsSet levels x) Fact
set_opens levels Fact so x ws rest p =
    then_opens (IsIdent p.1 p.0) (IsMark kinds.Assign ⌢ IsExpression levels p.2 ⌢ IsMark kinds.Semicolon) Fact (ident_opens p.1 p.0 Fact (so p.1 p.0)) ws rest p.4

return_opens : (levels : ℕ) (Fact : List Word → Type 0) → At kinds.KeyReturn Fact → (x : StmtTree) → Opens (IsReturn levels x) Fact
return_opens levels Fact so x ws rest p =
    then_opens (IsMarkAt kinds.KeyReturn p.0) (IsExpression levels p.1 ⌢ IsMark kinds.Semicolon) Fact (placed_opens kinds.KeyReturn p.0 Fact so) ws rest p.3

simple_opens : (levels : ℕ) (Fact : List Word → Type 0) → ((name : List ℕ) (at : ℕ) (rest : List Word) → Fact (ident name at ∷ rest)) → At kinds.KeyReturn Fact → (x : StmtTree) → Opens (IsSimple levels x) Fact
simple_opens levels Fact of_name of_return x ws rest (inl p) = set_opens levels Fact of_name x ws rest p
simple_opens levels Fact of_name of_return x ws rest (inr p) = return_opens levels Fact of_return x ws rest p

name_no_return : (name : List ℕ) (at : ℕ) (rest : List Word) → begins kinds.KeyReturn (ident name at ∷ rest) ≡ false
unfolding begins
name_no_return name at rest = refl

pub simple_reads : (levels : ℕ) → Reads (IsSimple levels) (simple_at levels) Anything
unfolding simple_at
simple_reads levels =
    same_reads (λ x ws. IsReturn levels x ws ⊎ IsSet levels x ws) (IsSimple levels) (simple_at levels) Anything
    (choice_reads (begins kinds.KeyReturn) (IsReturn levels) (return_at levels) Anything (IsSet levels) (set_at levels) Anything Anything (begins_heads kinds.KeyReturn) (return_reads levels) (set_reads levels)
    (λ x taken rest p after. (return_opens levels (λ ws. begins kinds.KeyReturn ws ≡ true) (begins_at kinds.KeyReturn) x taken rest p, tt))
    (λ x taken rest p after. (set_opens levels (λ ws. begins kinds.KeyReturn ws ≡ false) name_no_return x taken rest p, tt)))
    to from
  where
    to : (x : StmtTree) (ws : List Word) → IsReturn levels x ws ⊎ IsSet levels x ws → IsSimple levels x ws
    to x ws (inl p) = inr p
    to x ws (inr p) = inl p

    from : (x : StmtTree) (ws : List Word) → IsSimple levels x ws → IsReturn levels x ws ⊎ IsSet levels x ws
    from x ws (inl p) = inr p
    from x ws (inr p) = inl p

-- ---- blocks

brace_ends : At kinds.CloseBrace (λ ws. (begins_statement ws ≡ false) × NoElse ws)
unfolding begins_statement begins begins_ident
brace_ends at rest = (refl, refl)

pub no_statement : begins_statement [] ≡ false
unfolding begins_statement begins begins_ident
no_statement = refl

statement_no_else : (ws : List Word) → begins_statement ws ≡ true → NoElse ws
unfolding begins_statement begins begins_ident
statement_no_else [] h = refl
statement_no_else (ident name at ∷ rest) h = refl
statement_no_else (mark kinds.KeyElse at ∷ rest) h = absurd cc
statement_no_else (mark k at ∷ rest) h = refl
statement_no_else (numeral value at ∷ rest) h = refl

pub block_reads : (IsInner : Rule StmtTree) (inner : List Word → Read StmtTree) → Reads IsInner inner NoElse → ((x : StmtTree) → Opens (IsInner x) (λ ws. begins_statement ws ≡ true))
    → Reads (IsBlock IsInner) (block_at inner) Anything
unfolding block_at
block_reads IsInner inner r begin = braces_reads begins_statement IsInner inner NoElse statement_heads no_statement r begin statement_no_else brace_ends

abbrev IsOther : Rule StmtTree → Rule (List StmtTree)
IsOther IsInner body = IsMark kinds.KeyElse ⌢ IsBlock IsInner body

pub else_reads : (IsInner : Rule StmtTree) (inner : List Word → Read StmtTree) → Reads (IsBlock IsInner) (block_at inner) Anything → Reads (IsElse IsInner) (else_at inner) NoElse
unfolding else_at
else_reads IsInner inner r =
    same_reads (λ x ws. IsOther IsInner x ws ⊎ IsNothing x ws) (IsElse IsInner) (else_at inner) NoElse
    (choice_reads (begins kinds.KeyElse) (IsOther IsInner) (made_at else_of (mark_at kinds.KeyElse ⊗ block_at inner)) Anything IsNothing (pure_at []) Anything NoElse (begins_heads kinds.KeyElse)
    (made_reads (Both (λ (unit : Unit {0}). IsMark kinds.KeyElse) (IsBlock IsInner)) (mark_at kinds.KeyElse ⊗ block_at inner) Anything else_of (IsOther IsInner)
    (mark_then kinds.KeyElse (IsBlock IsInner) (block_at inner) Anything r)
    (λ x ws p. p)
    (λ y ws p. ((tt, y), refl, p)))
    (pure_reads [])
    (λ x taken rest p after. (then_opens (IsMark kinds.KeyElse) (IsBlock IsInner x) (λ ws. begins kinds.KeyElse ws ≡ true) (mark_opens kinds.KeyElse (λ ws. begins kinds.KeyElse ws ≡ true) (begins_at kinds.KeyElse)) taken rest p, tt))
    (λ x taken rest p after. (ap (λ (f : List Word). begins kinds.KeyElse (f ++ rest)) p.1 ∙ after, tt)))
    to from
  where
    IsNothing : Rule (List StmtTree)
    IsNothing x ws = (x ≡ []) × (ws ≡ [])

    to : (x : List StmtTree) (ws : List Word) → IsOther IsInner x ws ⊎ IsNothing x ws → IsElse IsInner x ws
    to x ws (inl p) = inr p
    to x ws (inr p) = inl p

    from : (x : List StmtTree) (ws : List Word) → IsElse IsInner x ws → IsOther IsInner x ws ⊎ IsNothing x ws
    from x ws (inl p) = inr p
    from x ws (inr p) = inl p

-- ---- if

if_reads : (levels : ℕ) (IsInner : Rule StmtTree) (inner : List Word → Read StmtTree) → Reads (IsBlock IsInner) (block_at inner) Anything → Reads (IsIf levels IsInner) (if_at levels inner) NoElse
unfolding if_at
if_reads levels IsInner inner r =
    made_reads (Both (λ (at : ℕ). IsMarkAt kinds.KeyIf at) IsRest) (placed_at kinds.KeyIf ⊗ condition_at levels ⊗ block_at inner ⊗ else_at inner) NoElse if_of (IsIf levels IsInner)
    (placed_then kinds.KeyIf IsRest (condition_at levels ⊗ block_at inner ⊗ else_at inner) NoElse
    (pair_reads IsCondition (condition_at levels) Anything IsBlocks (block_at inner ⊗ else_at inner) NoElse (condition_reads levels)
    (pair_reads (IsBlock IsInner) (block_at inner) Anything (IsElse IsInner) (else_at inner) NoElse r (else_reads IsInner inner r) (λ y taken rest is after. tt))
    (λ y taken rest is after. tt)))
    to from
  where
    IsCondition : Rule Expr
    IsCondition = IsParenthesized (IsExpression levels)

    IsBlocks : Rule (List StmtTree × List StmtTree)
    IsBlocks = Both (IsBlock IsInner) (IsElse IsInner)

    IsRest : Rule (Expr × (List StmtTree × List StmtTree))
    IsRest = Both IsCondition IsBlocks

    to : (x : ℕ × (Expr × (List StmtTree × List StmtTree))) (ws : List Word) → Both (λ (at : ℕ). IsMarkAt kinds.KeyIf at) IsRest x ws → IsIf levels IsInner (if_of x) ws
    to x ws p = (
      x.0,
      x.1.0,
      x.1.1.0,
      x.1.1.1,
      refl,
      within_second (IsMarkAt kinds.KeyIf x.0) (IsRest x.1) (IsMark kinds.OpenParen ⌢ IsExpression levels x.1.0 ⌢ IsMark kinds.CloseParen ⌢ IsBlocks x.1.1)
          (three_right (IsMark kinds.OpenParen) (IsExpression levels x.1.0) (IsMark kinds.CloseParen) (IsBlocks x.1.1)) ws p,
    )

    from : (y : StmtTree) (ws : List Word) → IsIf levels IsInner y ws → (x : ℕ × (Expr × (List StmtTree × List StmtTree))) × (y ≡ if_of x) × Both (λ (at : ℕ). IsMarkAt kinds.KeyIf at) IsRest x ws
    from y ws p = (
      (p.0, (p.1, (p.2, p.3))),
      p.4,
      within_second (IsMarkAt kinds.KeyIf p.0) (IsMark kinds.OpenParen ⌢ IsExpression levels p.1 ⌢ IsMark kinds.CloseParen ⌢ IsBlocks (p.2, p.3)) (IsRest (p.1, (p.2, p.3)))
          (three_left (IsMark kinds.OpenParen) (IsExpression levels p.1) (IsMark kinds.CloseParen) (IsBlocks (p.2, p.3))) ws p.5,
    )

if_opens : (levels : ℕ) (IsInner : Rule StmtTree) (Fact : List Word → Type 0) → At kinds.KeyIf Fact → (x : StmtTree) → Opens (IsIf levels IsInner x) Fact
if_opens levels IsInner Fact so x ws rest p =
    then_opens (IsMarkAt kinds.KeyIf p.0) (IsMark kinds.OpenParen ⌢ IsExpression levels p.1 ⌢ IsMark kinds.CloseParen ⌢ IsBlock IsInner p.2 ⌢ IsElse IsInner p.3) Fact
    (placed_opens kinds.KeyIf p.0 Fact so) ws rest p.5

-- ---- statements

name_begins : (name : List ℕ) (at : ℕ) (rest : List Word) → begins_statement (ident name at ∷ rest) ≡ true
unfolding begins_statement begins begins_ident
name_begins name at rest = refl

return_begins : At kinds.KeyReturn (λ ws. begins_statement ws ≡ true)
unfolding begins_statement begins begins_ident
return_begins at rest = refl

if_begins : At kinds.KeyIf (λ ws. begins_statement ws ≡ true)
unfolding begins_statement begins begins_ident
if_begins at rest = refl

name_no_if : (name : List ℕ) (at : ℕ) (rest : List Word) → begins kinds.KeyIf (ident name at ∷ rest) ≡ false
unfolding begins
name_no_if name at rest = refl

return_no_if : At kinds.KeyReturn (λ ws. begins kinds.KeyIf ws ≡ false)
unfolding begins
return_no_if at rest = refl

pub statement_begins : (levels : ℕ) (x : StmtTree) → Opens (IsStatement levels x) (λ ws. begins_statement ws ≡ true)
statement_begins zero x ws rest p = simple_opens zero (λ ws. begins_statement ws ≡ true) name_begins return_begins x ws rest p
statement_begins (suc levels) x ws rest (inl p) = simple_opens (suc levels) (λ ws. begins_statement ws ≡ true) name_begins return_begins x ws rest p
statement_begins (suc levels) x ws rest (inr p) = if_opens (suc levels) (IsStatement levels) (λ ws. begins_statement ws ≡ true) if_begins x ws rest p

outer_reads : (levels : ℕ) (IsInner : Rule StmtTree) (inner : List Word → Read StmtTree) → Reads (IsBlock IsInner) (block_at inner) Anything
    → Reads (λ x ws. IsSimple levels x ws ⊎ IsIf levels IsInner x ws) (choice_at (begins kinds.KeyIf) (if_at levels inner) (simple_at levels)) NoElse
outer_reads levels IsInner inner r =
    same_reads (λ x ws. IsIf levels IsInner x ws ⊎ IsSimple levels x ws) (λ x ws. IsSimple levels x ws ⊎ IsIf levels IsInner x ws) (choice_at (begins kinds.KeyIf) (if_at levels inner) (simple_at levels)) NoElse
    (choice_reads (begins kinds.KeyIf) (IsIf levels IsInner) (if_at levels inner) NoElse (IsSimple levels) (simple_at levels) Anything NoElse (begins_heads kinds.KeyIf) (if_reads levels IsInner inner r) (simple_reads levels)
    (λ x taken rest p after. (if_opens levels IsInner (λ ws. begins kinds.KeyIf ws ≡ true) (begins_at kinds.KeyIf) x taken rest p, after))
    (λ x taken rest p after. (simple_opens levels (λ ws. begins kinds.KeyIf ws ≡ false) name_no_if return_no_if x taken rest p, tt)))
    to from
  where
    to : (x : StmtTree) (ws : List Word) → IsIf levels IsInner x ws ⊎ IsSimple levels x ws → IsSimple levels x ws ⊎ IsIf levels IsInner x ws
    to x ws (inl p) = inr p
    to x ws (inr p) = inl p

    from : (x : StmtTree) (ws : List Word) → IsSimple levels x ws ⊎ IsIf levels IsInner x ws → IsIf levels IsInner x ws ⊎ IsSimple levels x ws
    from x ws (inl p) = inr p
    from x ws (inr p) = inl p

pub statement_reads : (levels : ℕ) → Reads (IsStatement levels) (statement_at levels) NoElse
unfolding statement_at
statement_reads zero = before (IsSimple zero) (simple_at zero) Anything NoElse (λ ws none. tt) (simple_reads zero)
statement_reads (suc levels) = outer_reads (suc levels) (IsStatement levels) (statement_at levels) (block_reads (IsStatement levels) (statement_at levels) (statement_reads levels) (statement_begins levels))

-- a block of statements
pub body_reads : (levels : ℕ) → Reads (IsBlock (IsStatement levels)) (block_at (statement_at levels)) Anything
body_reads levels = block_reads (IsStatement levels) (statement_at levels) (statement_reads levels) (statement_begins levels)
