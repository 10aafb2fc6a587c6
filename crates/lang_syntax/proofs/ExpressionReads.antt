-- The readers of expressions, level by level over the reader of a unary expression.
use Rattle.std.proofs.Common.{◌≡◌, ℕ, zero, suc, Bool, true, false, List, [], ◌++◌, Option, Some, None, refl, sym, ap, subst, ◌∙◌, inl, inr}
use Rattle.std.specs.Prelude.{◌⊎◌}
use Rattle.lang_tokens.specs.declared.token.TokenKind.{TokenKind}
use Rattle.lang_tokens.specs.declared.token.TokenKind.TheVariants as kinds
use Rattle.lang_syntax.specs.declared.expression_parser.Join.{Join}
use Rattle.lang_syntax.specs.declared.expression_parser.Join.TheVariants as joins
use Rattle.lang_tree.specs.declared.tree.Op.{Op}
use Rattle.lang_tree.specs.declared.tree.Op.TheVariants as ops
use Rattle.lang_tree.specs.declared.tree.Expr.{Expr}
use Rattle.lang_tree.specs.declared.tree.Expr.TheOpen.{Addend-F, Factor-F}
use Rattle.lang_tree.specs.declared.tree.Expr.TheVariants as exprs
use Rattle.lang_tree.specs.declared.tree.Addend.{Addend, out-Addend, out-roll-Addend, roll-out-Addend}
use Rattle.lang_tree.specs.declared.tree.Factor.{Factor, out-Factor, out-roll-Factor, roll-out-Factor}
use Rattle.lang_tokens.specs.Words.{Word}
use Rattle.lang_syntax.specs.Grammar.{Rule, ◌⌢◌, Maybe, IsChain, IsMarkAt, IsMark, truth_word, op_sign, sum_sign, IsFactor, IsProduct, IsAddend, IsSum, IsCompared, IsComparison, IsConjunction, IsDisjunction, IsAtom, IsOpened, IsUnary, IsExpression}
use Rattle.lang_cursor.specs.Reading.{Read, ◌⊗◌, made_at, choice_at, pure_at, placed_at, mark_at, listed_at, op_of, minus_of, begins, begins_listed, atom_at}
use Rattle.lang_syntax.specs.inner.Reading.{factor_of, factor_at, factors_at, product_at, addend_of, addend_at, addends_at, sum_at, comparison_of, compared_at, comparison_at, part_of, sign_of, node_of, part_at, parts_at, joined_at, conjunction_at, disjunction_at, inner_at, minus_of_unary, not_of_unary, inner_of, minus_unary_at, not_unary_at, group_at, opened_at, unary_at, expression_at}
use Rattle.lang_syntax.proofs.Readers.{Reads, Anything, Both, pair_reads, made_reads, pure_reads, choice_reads, before}
use Rattle.lang_syntax.proofs.WordReads.{is_minus, op_reads, minus_reads, atom_reads, begins_heads, listed_heads}
use Rattle.lang_syntax.proofs.Openings.{Opens, At, mark_opens, placed_opens, then_opens, atom_opens, begins_none, listed_none, begins_at, begun, listed_begun}
use Rattle.lang_syntax.proofs.Sequences.{same_reads, mark_then, placed_then, then_mark, chain_reads}

-- ---- what follows: no sign of this level, nor of one that holds tighter

abbrev pub NoStar : List Word → Type 0
NoStar ws = begins kinds.Star ws ≡ false

abbrev pub NoSign : List Word → Type 0
NoSign ws = (begins_listed minus_of ws ≡ false) × NoStar ws

abbrev pub NoOp : List Word → Type 0
NoOp ws = (begins_listed op_of ws ≡ false) × NoSign ws

abbrev pub NoAnd : List Word → Type 0
NoAnd ws = (begins kinds.And ws ≡ false) × NoOp ws

abbrev pub NoOr : List Word → Type 0
NoOr ws = (begins kinds.Or ws ≡ false) × NoAnd ws

sign_no_star : (minus : Bool) → At (sum_sign minus) NoStar
unfolding begins
sign_no_star true at rest = refl
sign_no_star false at rest = refl

op_no_sign : (op : Op) → At (op_sign op) NoSign
unfolding begins begins_listed
op_no_sign ops.Equal at rest = (refl, refl)
op_no_sign ops.Differs at rest = (refl, refl)
op_no_sign ops.Less at rest = (refl, refl)
op_no_sign ops.AtMost at rest = (refl, refl)
op_no_sign ops.More at rest = (refl, refl)
op_no_sign ops.AtLeast at rest = (refl, refl)

and_no_op : At kinds.And NoOp
unfolding begins begins_listed
and_no_op at rest = (refl, (refl, refl))

or_no_and : At kinds.Or NoAnd
unfolding begins begins_listed
or_no_and at rest = (refl, (refl, (refl, refl)))

pub right_no_or : At kinds.CloseParen NoOr
unfolding begins begins_listed
right_no_or at rest = (refl, (refl, (refl, (refl, refl))))

pub semicolon_no_or : At kinds.Semicolon NoOr
unfolding begins begins_listed
semicolon_no_or at rest = (refl, (refl, (refl, (refl, refl))))

begins_sign : (minus : Bool) → At (sum_sign minus) (λ ws. begins_listed minus_of ws ≡ true)
unfolding begins_listed
begins_sign true at rest = refl
begins_sign false at rest = refl

begins_op : (op : Op) → At (op_sign op) (λ ws. begins_listed op_of ws ≡ true)
unfolding begins_listed
begins_op ops.Equal at rest = refl
begins_op ops.Differs at rest = refl
begins_op ops.Less at rest = refl
begins_op ops.AtMost at rest = refl
begins_op ops.More at rest = refl
begins_op ops.AtLeast at rest = refl

-- ---- products

pub factor_reads : (IsUnary : Rule Expr) (unary : List Word → Read Expr) → Reads IsUnary unary Anything → Reads (IsFactor IsUnary) (factor_at unary) Anything
unfolding factor_at
factor_reads IsUnary unary r =
    made_reads (Both (λ (at : ℕ). IsMarkAt kinds.Star at) IsUnary) (placed_at kinds.Star ⊗ unary) Anything factor_of (IsFactor IsUnary)
    (placed_then kinds.Star IsUnary unary Anything r)
    (λ x ws p. subst (λ (part : Factor-F Expr Addend Factor). (IsMarkAt kinds.Star part.at ⌢ IsUnary part.of) ws) (sym (out-roll-Factor (record { at = x.0; of = x.1 }))) p)
    (λ y ws p. (((out-Factor y).at, (out-Factor y).of), sym (roll-out-Factor y), p))

pub factor_begins : (IsUnary : Rule Expr) (x : Factor) → Opens (IsFactor IsUnary x) (λ ws. begins kinds.Star ws ≡ true)
factor_begins IsUnary x = then_opens (IsMarkAt kinds.Star (out-Factor x).at) (IsUnary (out-Factor x).of) (λ ws. begins kinds.Star ws ≡ true)
    (placed_opens kinds.Star (out-Factor x).at (λ ws. begins kinds.Star ws ≡ true) (begins_at kinds.Star))

pub product_reads : (IsUnary : Rule Expr) (unary : List Word → Read Expr) → Reads IsUnary unary Anything → Reads (IsProduct IsUnary) (product_at unary) NoStar
unfolding product_at factors_at
product_reads IsUnary unary r = before (IsProduct IsUnary) (product_at unary) (λ ws. NoStar ws × Anything ws) NoStar (λ ws none. (none, tt))
    (chain_reads exprs.Product IsUnary unary (begins kinds.Star) (IsFactor IsUnary) (factor_at unary) Anything
    r (factor_reads IsUnary unary r) (begins_heads kinds.Star) (begins_none kinds.Star) (factor_begins IsUnary) (λ ws h. tt))

-- ---- sums

pub addend_reads : (IsUnary : Rule Expr) (unary : List Word → Read Expr) → Reads IsUnary unary Anything → Reads (IsAddend IsUnary) (addend_at unary) NoStar
unfolding addend_at
addend_reads IsUnary unary r =
    made_reads (Both (λ (minus : Bool). IsMark (sum_sign minus)) (IsProduct IsUnary)) (listed_at minus_of ⊗ product_at unary) NoStar addend_of (IsAddend IsUnary)
    (pair_reads (λ minus. IsMark (sum_sign minus)) (listed_at minus_of) Anything (IsProduct IsUnary) (product_at unary) NoStar minus_reads (product_reads IsUnary unary r) (λ y taken rest is after. tt))
    (λ x ws p. subst (λ (part : Addend-F Expr Addend Factor). (IsMark (sum_sign part.minus) ⌢ IsProduct IsUnary part.of) ws) (sym (out-roll-Addend (record { minus = x.0; of = x.1 }))) p)
    (λ y ws p. (((out-Addend y).minus, (out-Addend y).of), sym (roll-out-Addend y), p))

pub addend_begins : (IsUnary : Rule Expr) (x : Addend) → Opens (IsAddend IsUnary x) (λ ws. begins_listed minus_of ws ≡ true)
addend_begins IsUnary x = then_opens (IsMark (sum_sign (out-Addend x).minus)) (IsProduct IsUnary (out-Addend x).of) (λ ws. begins_listed minus_of ws ≡ true)
    (mark_opens (sum_sign (out-Addend x).minus) (λ ws. begins_listed minus_of ws ≡ true) (begins_sign (out-Addend x).minus))

pub sum_reads : (IsUnary : Rule Expr) (unary : List Word → Read Expr) → Reads IsUnary unary Anything → Reads (IsSum IsUnary) (sum_at unary) NoSign
unfolding sum_at addends_at
sum_reads IsUnary unary r = chain_reads exprs.Sum (IsProduct IsUnary) (product_at unary) (begins_listed minus_of) (IsAddend IsUnary) (addend_at unary) NoStar
    (product_reads IsUnary unary r) (addend_reads IsUnary unary r) (listed_heads minus_of) (listed_none minus_of) (addend_begins IsUnary) (listed_begun minus_of sum_sign is_minus NoStar sign_no_star)

-- ---- comparisons

compared_opens : (IsUnary : Rule Expr) (Fact : List Word → Type 0) → ((op : Op) → At (op_sign op) Fact) → (compared : Op × Expr) → Opens (IsCompared IsUnary compared) Fact
compared_opens IsUnary Fact so compared = then_opens (IsMark (op_sign compared.0)) (IsSum IsUnary compared.1) Fact (mark_opens (op_sign compared.0) Fact (so compared.0))

compared_reads : (IsUnary : Rule Expr) (unary : List Word → Read Expr) → Reads IsUnary unary Anything → Reads (Maybe (IsCompared IsUnary)) (compared_at unary) NoOp
unfolding compared_at
compared_reads IsUnary unary r =
    same_reads (λ x ws. IsSome x ws ⊎ ((x ≡ None) × (ws ≡ []))) (Maybe (IsCompared IsUnary)) (compared_at unary) NoOp
    (choice_reads (begins_listed op_of) IsSome (made_at (λ compared. Some compared) (listed_at op_of ⊗ sum_at unary)) NoSign (λ x ws. (x ≡ None) × (ws ≡ [])) (pure_at None) Anything NoOp
    (listed_heads op_of) some_reads (pure_reads None) begins_some begins_nothing)
    to from
  where
    IsSome : Rule (Option (Op × Expr))
    IsSome x ws = (compared : Op × Expr) × (x ≡ Some compared) × IsCompared IsUnary compared ws

    some_reads : Reads IsSome (made_at (λ compared. Some compared) (listed_at op_of ⊗ sum_at unary)) NoSign
    some_reads = made_reads (Both (λ (op : Op). IsMark (op_sign op)) (IsSum IsUnary)) (listed_at op_of ⊗ sum_at unary) NoSign (λ compared. Some compared) IsSome
        (pair_reads (λ op. IsMark (op_sign op)) (listed_at op_of) Anything (IsSum IsUnary) (sum_at unary) NoSign op_reads (sum_reads IsUnary unary r) (λ y taken rest is after. tt))
        (λ x ws p. (x, refl, p))
        (λ y ws p. p)

    begins_some : (x : Option (Op × Expr)) (taken rest : List Word) → IsSome x taken → NoOp rest → (begins_listed op_of (taken ++ rest) ≡ true) × NoSign rest
    begins_some x taken rest p after = (compared_opens IsUnary (λ ws. begins_listed op_of ws ≡ true) begins_op p.0 taken rest p.2, after.1)

    begins_nothing : (x : Option (Op × Expr)) (taken rest : List Word) → (x ≡ None) × (taken ≡ []) → NoOp rest → (begins_listed op_of (taken ++ rest) ≡ false) × Anything rest
    begins_nothing x taken rest p after = (ap (λ (f : List Word). begins_listed op_of (f ++ rest)) p.1 ∙ after.0, tt)

    to : (x : Option (Op × Expr)) (ws : List Word) → IsSome x ws ⊎ ((x ≡ None) × (ws ≡ [])) → Maybe (IsCompared IsUnary) x ws
    to x ws (inl p) = subst (λ (y : Option (Op × Expr)). Maybe (IsCompared IsUnary) y ws) (sym p.1) p.2
    to x ws (inr p) = subst (λ (y : Option (Op × Expr)). Maybe (IsCompared IsUnary) y ws) (sym p.0) p.1

    from : (x : Option (Op × Expr)) (ws : List Word) → Maybe (IsCompared IsUnary) x ws → IsSome x ws ⊎ ((x ≡ None) × (ws ≡ []))
    from (Some compared) ws p = inl (compared, refl, p)
    from None ws p = inr (refl, p)

pub comparison_reads : (IsUnary : Rule Expr) (unary : List Word → Read Expr) → Reads IsUnary unary Anything → Reads (IsComparison IsUnary) (comparison_at unary) NoOp
unfolding comparison_at
comparison_reads IsUnary unary r =
    made_reads (Both (IsSum IsUnary) (Maybe (IsCompared IsUnary))) (sum_at unary ⊗ compared_at unary) NoOp comparison_of (IsComparison IsUnary)
    (pair_reads (IsSum IsUnary) (sum_at unary) NoSign (Maybe (IsCompared IsUnary)) (compared_at unary) NoOp (sum_reads IsUnary unary r) (compared_reads IsUnary unary r) meets)
    (λ x ws p. (x.0, x.1, refl, p))
    (λ y ws p. ((p.0, p.1), p.2, p.3))
  where
    meets : (x : Option (Op × Expr)) (taken rest : List Word) → Maybe (IsCompared IsUnary) x taken → NoOp rest → NoSign (taken ++ rest)
    meets None taken rest none after = subst (λ (f : List Word). NoSign (f ++ rest)) (sym none) after.1
    meets (Some compared) taken rest p after = compared_opens IsUnary NoSign op_no_sign compared taken rest p

-- ---- conjunctions and disjunctions

-- the sign and a part
abbrev pub IsPart : Join → Rule Expr → Rule Expr
IsPart join IsInner part = IsMark (sign_of join) ⌢ IsInner part

pub part_reads : (join : Join) (IsInner : Rule Expr) (inner : List Word → Read Expr) (After : List Word → Type 0) → Reads IsInner inner After → Reads (IsPart join IsInner) (part_at join inner) After
unfolding part_at
part_reads join IsInner inner After r =
    made_reads (Both (λ (unit : Unit {0}). IsMark (sign_of join)) IsInner) (mark_at (sign_of join) ⊗ inner) After part_of (IsPart join IsInner)
    (mark_then (sign_of join) IsInner inner After r)
    (λ x ws p. p)
    (λ y ws p. ((tt, y), refl, p))

pub part_begins : (join : Join) (IsInner : Rule Expr) (x : Expr) → Opens (IsPart join IsInner x) (λ ws. begins (sign_of join) ws ≡ true)
part_begins join IsInner x = then_opens (IsMark (sign_of join)) (IsInner x) (λ ws. begins (sign_of join) ws ≡ true)
    (mark_opens (sign_of join) (λ ws. begins (sign_of join) ws ≡ true) (begins_at (sign_of join)))

joined_reads : (join : Join) (IsInner : Rule Expr) (inner : List Word → Read Expr) (After : List Word → Type 0) → Reads IsInner inner After → At (sign_of join) After
    → Reads (IsChain (node_of join) IsInner (IsPart join IsInner)) (joined_at join inner) (λ ws. (begins (sign_of join) ws ≡ false) × After ws)
unfolding joined_at parts_at
joined_reads join IsInner inner After r sign = chain_reads (node_of join) IsInner inner (begins (sign_of join)) (IsPart join IsInner) (part_at join inner) After
    r (part_reads join IsInner inner After r) (begins_heads (sign_of join)) (begins_none (sign_of join)) (part_begins join IsInner) (begun (sign_of join) After sign)

pub conjunction_reads : (IsUnary : Rule Expr) (unary : List Word → Read Expr) → Reads IsUnary unary Anything → Reads (IsConjunction IsUnary) (conjunction_at unary) NoAnd
unfolding conjunction_at
conjunction_reads IsUnary unary r = joined_reads joins.And (IsComparison IsUnary) (comparison_at unary) NoOp (comparison_reads IsUnary unary r) and_no_op

pub disjunction_reads : (IsUnary : Rule Expr) (unary : List Word → Read Expr) → Reads IsUnary unary Anything → Reads (IsDisjunction IsUnary) (disjunction_at unary) NoOr
unfolding disjunction_at
disjunction_reads IsUnary unary r = joined_reads joins.Or (IsConjunction IsUnary) (conjunction_at unary) NoAnd (conjunction_reads IsUnary unary r) or_no_and

-- ---- unary expressions

-- an expression in parentheses
abbrev pub IsParenthesized : Rule Expr → Rule Expr
IsParenthesized IsInner x = IsMark kinds.OpenParen ⌢ IsInner x ⌢ IsMark kinds.CloseParen

pub parentheses_read : (IsInner : Rule Expr) (inner : List Word → Read Expr) → Reads IsInner inner NoOr
    → Reads (IsParenthesized IsInner) (made_at inner_of (mark_at kinds.OpenParen ⊗ inner ⊗ mark_at kinds.CloseParen)) Anything
parentheses_read IsInner inner r =
    made_reads (Both (λ (unit : Unit {0}). IsMark kinds.OpenParen) (Both IsInner (λ (unit : Unit {0}). IsMark kinds.CloseParen))) (mark_at kinds.OpenParen ⊗ inner ⊗ mark_at kinds.CloseParen) Anything inner_of (IsParenthesized IsInner)
    (mark_then kinds.OpenParen (Both IsInner (λ (unit : Unit {0}). IsMark kinds.CloseParen)) (inner ⊗ mark_at kinds.CloseParen) Anything (then_mark kinds.CloseParen IsInner inner NoOr r right_no_or))
    (λ x ws p. p)
    (λ y ws p. ((tt, (y, tt)), refl, p))

abbrev IsGroup : Rule Expr → Rule Expr
IsGroup IsUnary = IsParenthesized (IsDisjunction IsUnary)

group_reads : (IsUnary : Rule Expr) (unary : List Word → Read Expr) → Reads IsUnary unary Anything → Reads (IsGroup IsUnary) (group_at unary) Anything
unfolding group_at
group_reads IsUnary unary r = parentheses_read (IsDisjunction IsUnary) (disjunction_at unary) (disjunction_reads IsUnary unary r)

-- a unary operator before what it is applied to
abbrev IsApplied : TokenKind → (ℕ → Expr → Expr) → Rule Expr → Rule Expr
IsApplied kind node IsUnary x ws = (at : ℕ) × (of : Expr) × (x ≡ node at of) × (IsMarkAt kind at ⌢ IsUnary of) ws

negated_reads : (IsUnary : Rule Expr) (unary : List Word → Read Expr) → Reads IsUnary unary Anything → Reads (IsApplied kinds.Minus exprs.Minus IsUnary) (minus_unary_at unary) Anything
unfolding minus_unary_at
negated_reads IsUnary unary r =
    made_reads (Both (λ (at : ℕ). IsMarkAt kinds.Minus at) IsUnary) (placed_at kinds.Minus ⊗ unary) Anything minus_of_unary (IsApplied kinds.Minus exprs.Minus IsUnary)
    (placed_then kinds.Minus IsUnary unary Anything r)
    (λ x ws p. (x.0, x.1, refl, p))
    (λ y ws p. ((p.0, p.1), p.2, p.3))

inverted_reads : (IsUnary : Rule Expr) (unary : List Word → Read Expr) → Reads IsUnary unary Anything → Reads (IsApplied kinds.Not exprs.Not IsUnary) (not_unary_at unary) Anything
unfolding not_unary_at
inverted_reads IsUnary unary r =
    made_reads (Both (λ (at : ℕ). IsMarkAt kinds.Not at) IsUnary) (placed_at kinds.Not ⊗ unary) Anything not_of_unary (IsApplied kinds.Not exprs.Not IsUnary)
    (placed_then kinds.Not IsUnary unary Anything r)
    (λ x ws p. (x.0, x.1, refl, p))
    (λ y ws p. ((p.0, p.1), p.2, p.3))

applied_opens : (kind : TokenKind) (node : ℕ → Expr → Expr) (IsUnary : Rule Expr) (Fact : List Word → Type 0) → At kind Fact → (x : Expr) → Opens (IsApplied kind node IsUnary x) Fact
applied_opens kind node IsUnary Fact so x ws rest p = then_opens (IsMarkAt kind p.0) (IsUnary p.1) Fact (placed_opens kind p.0 Fact so) ws rest p.3

-- none of these begins an atom
no_minus : (x : Expr) → Opens (IsAtom x) (λ ws. begins kinds.Minus ws ≡ false)
unfolding begins
no_minus x = atom_opens (λ ws. begins kinds.Minus ws ≡ false) (λ value at rest. refl) (λ name at rest. refl) of_truth x
  where
    of_truth : (value : Bool) → At (truth_word value) (λ ws. begins kinds.Minus ws ≡ false)
    of_truth true at rest = refl
    of_truth false at rest = refl

no_not : (x : Expr) → Opens (IsAtom x) (λ ws. begins kinds.Not ws ≡ false)
unfolding begins
no_not x = atom_opens (λ ws. begins kinds.Not ws ≡ false) (λ value at rest. refl) (λ name at rest. refl) of_truth x
  where
    of_truth : (value : Bool) → At (truth_word value) (λ ws. begins kinds.Not ws ≡ false)
    of_truth true at rest = refl
    of_truth false at rest = refl

no_group : (x : Expr) → Opens (IsAtom x) (λ ws. begins kinds.OpenParen ws ≡ false)
unfolding begins
no_group x = atom_opens (λ ws. begins kinds.OpenParen ws ≡ false) (λ value at rest. refl) (λ name at rest. refl) of_truth x
  where
    of_truth : (value : Bool) → At (truth_word value) (λ ws. begins kinds.OpenParen ws ≡ false)
    of_truth true at rest = refl
    of_truth false at rest = refl

left_no_minus : At kinds.OpenParen (λ ws. begins kinds.Minus ws ≡ false)
unfolding begins
left_no_minus at rest = refl

left_no_not : At kinds.OpenParen (λ ws. begins kinds.Not ws ≡ false)
unfolding begins
left_no_not at rest = refl

not_no_minus : At kinds.Not (λ ws. begins kinds.Minus ws ≡ false)
unfolding begins
not_no_minus at rest = refl

group_opens : (IsUnary : Rule Expr) (Fact : List Word → Type 0) → At kinds.OpenParen Fact → (x : Expr) → Opens (IsGroup IsUnary x) Fact
group_opens IsUnary Fact so x = then_opens (IsMark kinds.OpenParen) (IsDisjunction IsUnary x ⌢ IsMark kinds.CloseParen) Fact (mark_opens kinds.OpenParen Fact so)

pub opened_reads : (IsUnary : Rule Expr) (unary : List Word → Read Expr) → Reads IsUnary unary Anything → Reads (λ x ws. IsAtom x ws ⊎ IsOpened IsUnary x ws) (opened_at unary) Anything
unfolding opened_at
opened_reads IsUnary unary r =
    same_reads (λ x ws. IsMinus x ws ⊎ NotMinus x ws) (λ x ws. IsAtom x ws ⊎ IsOpened IsUnary x ws) (opened_at unary) Anything
    (choice_reads (begins kinds.Minus) IsMinus (minus_unary_at unary) Anything NotMinus (choice_at (begins kinds.Not) (not_unary_at unary) (choice_at (begins kinds.OpenParen) (group_at unary) atom_at)) Anything Anything
    (begins_heads kinds.Minus) (negated_reads IsUnary unary r)
    (choice_reads (begins kinds.Not) IsNot (not_unary_at unary) Anything NotNot (choice_at (begins kinds.OpenParen) (group_at unary) atom_at) Anything Anything
    (begins_heads kinds.Not) (inverted_reads IsUnary unary r)
    (choice_reads (begins kinds.OpenParen) (IsGroup IsUnary) (group_at unary) Anything IsAtom atom_at Anything Anything (begins_heads kinds.OpenParen) (group_reads IsUnary unary r) atom_reads group_begins atom_begins)
    not_begins other_begins)
    minus_begins others_begin)
    to from
  where
    IsMinus : Rule Expr
    IsMinus = IsApplied kinds.Minus exprs.Minus IsUnary

    IsNot : Rule Expr
    IsNot = IsApplied kinds.Not exprs.Not IsUnary

    NotNot : Rule Expr
    NotNot x ws = IsGroup IsUnary x ws ⊎ IsAtom x ws

    NotMinus : Rule Expr
    NotMinus x ws = IsNot x ws ⊎ NotNot x ws

    group_begins : (x : Expr) (taken rest : List Word) → IsGroup IsUnary x taken → Anything rest → (begins kinds.OpenParen (taken ++ rest) ≡ true) × Anything rest
    group_begins x taken rest p after = (group_opens IsUnary (λ ws. begins kinds.OpenParen ws ≡ true) (begins_at kinds.OpenParen) x taken rest p, tt)

    atom_begins : (x : Expr) (taken rest : List Word) → IsAtom x taken → Anything rest → (begins kinds.OpenParen (taken ++ rest) ≡ false) × Anything rest
    atom_begins x taken rest p after = (no_group x taken rest p, tt)

    not_begins : (x : Expr) (taken rest : List Word) → IsNot x taken → Anything rest → (begins kinds.Not (taken ++ rest) ≡ true) × Anything rest
    not_begins x taken rest p after = (applied_opens kinds.Not exprs.Not IsUnary (λ ws. begins kinds.Not ws ≡ true) (begins_at kinds.Not) x taken rest p, tt)

    other_begins : (x : Expr) (taken rest : List Word) → NotNot x taken → Anything rest → (begins kinds.Not (taken ++ rest) ≡ false) × Anything rest
    other_begins x taken rest (inl p) after = (group_opens IsUnary (λ ws. begins kinds.Not ws ≡ false) left_no_not x taken rest p, tt)
    other_begins x taken rest (inr p) after = (no_not x taken rest p, tt)

    minus_begins : (x : Expr) (taken rest : List Word) → IsMinus x taken → Anything rest → (begins kinds.Minus (taken ++ rest) ≡ true) × Anything rest
    minus_begins x taken rest p after = (applied_opens kinds.Minus exprs.Minus IsUnary (λ ws. begins kinds.Minus ws ≡ true) (begins_at kinds.Minus) x taken rest p, tt)

    others_begin : (x : Expr) (taken rest : List Word) → NotMinus x taken → Anything rest → (begins kinds.Minus (taken ++ rest) ≡ false) × Anything rest
    others_begin x taken rest (inl p) after = (applied_opens kinds.Not exprs.Not IsUnary (λ ws. begins kinds.Minus ws ≡ false) not_no_minus x taken rest p, tt)
    others_begin x taken rest (inr (inl p)) after = (group_opens IsUnary (λ ws. begins kinds.Minus ws ≡ false) left_no_minus x taken rest p, tt)
    others_begin x taken rest (inr (inr p)) after = (no_minus x taken rest p, tt)

    to : (x : Expr) (ws : List Word) → IsMinus x ws ⊎ NotMinus x ws → IsAtom x ws ⊎ IsOpened IsUnary x ws
    to x ws (inl p) = inr (inl p)
    to x ws (inr (inl p)) = inr (inr (inl p))
    to x ws (inr (inr (inl p))) = inr (inr (inr p))
    to x ws (inr (inr (inr p))) = inl p

    from : (x : Expr) (ws : List Word) → IsAtom x ws ⊎ IsOpened IsUnary x ws → IsMinus x ws ⊎ NotMinus x ws
    from x ws (inr (inl p)) = inl p
    from x ws (inr (inr (inl p))) = inr (inl p)
    from x ws (inr (inr (inr p))) = inr (inr (inl p))
    from x ws (inl p) = inr (inr (inr p))

pub unary_reads : (levels : ℕ) → Reads (IsUnary levels) (unary_at levels) Anything
unfolding unary_at
unary_reads zero = atom_reads
unary_reads (suc levels) = opened_reads (IsUnary levels) (unary_at levels) (unary_reads levels)

-- what stands between the signs, and what may follow it
abbrev pub IsInner : Join → ℕ → Rule Expr
IsInner joins.And levels = IsComparison (IsUnary levels)
IsInner joins.Or levels = IsConjunction (IsUnary levels)

abbrev pub AfterInner : Join → List Word → Type 0
AfterInner joins.And = NoOp
AfterInner joins.Or = NoAnd

pub inner_reads : (join : Join) (levels : ℕ) → Reads (IsInner join levels) (inner_at join levels) (AfterInner join)
inner_reads joins.And levels = comparison_reads (IsUnary levels) (unary_at levels) (unary_reads levels)
inner_reads joins.Or levels = conjunction_reads (IsUnary levels) (unary_at levels) (unary_reads levels)

pub expression_reads : (levels : ℕ) → Reads (IsExpression levels) (expression_at levels) NoOr
unfolding expression_at
expression_reads levels = disjunction_reads (IsUnary levels) (unary_at levels) (unary_reads levels)
