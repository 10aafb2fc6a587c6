-- The canonical words of an expression, whatever their offsets, derive it again.
use Rattle.std.proofs.Common.{◌≡◌, ℕ, zero, suc, ◌≤◌, ◌⊎◌, inl, inr, Bool, true, false, List, [], ◌∷◌, ◌++◌, map, refl, sym, ap, subst, ◌∙◌, arith, Option, Some, None}
use Rattle.std.specs.List.{flat_map}
use Rattle.std.specs.Prelude.{nat_lt, if◌then◌else◌}
use Rattle.std.proofs.lemmas.Bool.{ltb-false, ltb-true}
use Rattle.lang_tokens.specs.declared.token.TokenKind.TheVariants as kinds
use Rattle.lang_tokens.specs.declared.token.TokenKind.{TokenKind}
use Rattle.lang_tree.specs.declared.tree.Op.{Op}
use Rattle.lang_tree.specs.declared.tree.Expr.{Expr}
use Rattle.lang_tree.specs.declared.tree.Factor.{Factor, out-Factor, roll-Factor, out-roll-Factor}
use Rattle.lang_tree.specs.declared.tree.Addend.{Addend, out-Addend, roll-Addend, out-roll-Addend}
use Rattle.lang_tree.specs.declared.tree.Expr.TheVariants as exprs
use Rattle.lang_tree.specs.declared.tree.Expr.TheOpen.{Factor-F, Addend-F}
use Rattle.lang_tree.specs.declared.tree.Expr.TheFolds.{fold-roll-Addend, fold-roll-Factor, fold_out-Addend, fold_out-Factor}
use Rattle.lang_tokens.specs.Words.{Word, ident, numeral, mark}
use Rattle.lang_syntax.specs.Grammar.{Rule, ◌⌢◌, Each, Maybe, truth_word, op_sign, sum_sign, IsMark, IsMarkAt, IsNumeral, IsIdent, chain, IsChain, IsFactor, IsProduct, IsAddend, IsSum, comparison, IsCompared, IsComparison, both, IsConjunction, either, IsDisjunction, IsAtom, IsOpened, IsUnary, IsExpression}
use Rattle.lang_tree.specs.Offsets.{unplaced_expression, expression_step, addend_step, factor_step}
use Rattle.lang_syntax.proofs.CanonicalWords.{Spelled, spelled, spelled_step, expression_words, addend_words, factor_words, in_parentheses, words_at}
use Rattle.lang_syntax.proofs.PrintedWords.{Again, Within, each_again, cut_mark, cut_mark_at, cut_ident, cut_numeral, cut_tree, last_mark, alone}
use Rattle.lang_syntax.proofs.Levels.{IsAtLevel, looser, level_within, one_more_level}
use Rattle.lang_syntax.proofs.CanonicalForms as forms

-- ---- an expression at a level

-- what is spelled so is derived at its own level, one with this view
abbrev IsAgain : ℕ → Spelled → Expr → Type 0
IsAgain levels part view = Again (IsAtLevel (IsUnary levels) part.level) unplaced_expression view part.words

abbrev Own : ℕ → Expr → Type 0
Own levels expression = IsAgain levels (spelled expression) (unplaced_expression expression)

abbrev OneLess : ℕ → Expr → Type 0
OneLess zero expression = ⊥
OneLess (suc levels) expression = Own levels expression

-- Where it holds together less than is asked, it stood in parentheses, and leaves a level for those
-- of the canonical form.
pub record Fits (asked levels : ℕ) (expression : Expr) : Type 0 where
  pub own : Own levels expression
  pub tight_or_less : (asked ≤ (spelled expression).level) ⊎ OneLess levels expression

abbrev AllFit : ℕ → ℕ → Rule Expr → Type 0
AllFit asked levels IsPart = (expression : Expr) (ws : List Word) → IsPart expression ws → Fits asked levels expression

looser_fits : (asked levels : ℕ) (expression : Expr) → Fits (suc asked) levels expression → Fits asked levels expression
looser_fits asked levels expression fits = record { own = fits.own; tight_or_less = by_level fits.tight_or_less }
  where
    by_level : (suc asked ≤ (spelled expression).level) ⊎ OneLess levels expression → (asked ≤ (spelled expression).level) ⊎ OneLess levels expression
    by_level (inl tight) = inl (omega arith)
    by_level (inr less) = inr less

-- an expression of this form
is_form : (asked levels : ℕ) (expression : Expr) (part : Spelled) (view : Expr) → spelled expression ≡ part → unplaced_expression expression ≡ view → asked ≤ part.level → IsAgain levels part view → Fits asked levels expression
is_form asked levels expression part view words seen tight again = record {
  own = subst (λ (p : Spelled). IsAgain levels p (unplaced_expression expression)) (sym words) (subst (λ (v : Expr). IsAgain levels part v) (sym seen) again);
  tight_or_less = inl (subst (λ (p : Spelled). asked ≤ p.level) (sym words) tight);
}

-- ---- a part, in parentheses or not

in_parentheses_again : (levels asked : ℕ) (expression : Expr) → asked ≤ 6 → OneLess levels expression
    → Again (IsAtLevel (IsUnary levels) asked) unplaced_expression (unplaced_expression expression) (in_parentheses (spelled expression).words)
in_parentheses_again zero asked expression le less = absurd less
in_parentheses_again (suc levels) asked expression le less = λ printed h.
    let opening = cut_mark kinds.OpenParen ((spelled expression).words ++ mark kinds.CloseParen 0 ∷ []) printed h in
    let inner = cut_tree less (mark kinds.CloseParen 0 ∷ []) opening.rest opening.bare_rest in
    let closing = last_mark kinds.CloseParen inner.cut.rest inner.cut.bare_rest in
    let whole : IsDisjunction (IsUnary levels) inner.again inner.cut.front = looser (IsUnary levels) 0 (spelled expression).level (omega arith) inner.again inner.cut.front inner.cut.first in
    let unary : IsUnary (suc levels) inner.again printed = inr (inr (inr (opening.front, opening.rest, opening.first, (inner.cut.front, inner.cut.rest, whole, closing, inner.cut.is), opening.is))) in
    (inner.again, looser (IsUnary (suc levels)) asked 6 le inner.again printed unary, inner.same)

part_again : (asked levels : ℕ) (expression : Expr) → asked ≤ 6 → Fits asked levels expression
    → Again (IsAtLevel (IsUnary levels) asked) unplaced_expression (unplaced_expression expression) (words_at asked (spelled expression))
part_again asked levels expression le fits = by_test (nat_lt (spelled expression).level asked) refl fits.tight_or_less
  where
    by_test : (test : Bool) → nat_lt (spelled expression).level asked ≡ test → (asked ≤ (spelled expression).level) ⊎ OneLess levels expression
        → Again (IsAtLevel (IsUnary levels) asked) unplaced_expression (unplaced_expression expression) (if test then in_parentheses (spelled expression).words else (spelled expression).words)
    by_test true is (inl tight) = let below = ltb-true (spelled expression).level asked is in absurd (omega arith)
    by_test true is (inr less) = in_parentheses_again levels asked expression le less
    by_test false is either_way = λ printed h.
        let a = fits.own printed h in
        (a.0, looser (IsUnary levels) asked (spelled expression).level (ltb-false (spelled expression).level asked is) a.0 printed a.1, a.2)

-- ---- chains

is_chain : {Part Seen : Type 0} (node : Expr → List Part → Expr) (IsFirst : Rule Expr) (IsPart : Rule Part) (view : Part → Seen) (first : Expr) (rest : List Part) (seen : Seen) (more : List Seen)
    → map view rest ≡ seen ∷ more → (ws : List Word) → (IsFirst first ⌢ Each IsPart rest) ws → IsChain node IsFirst IsPart (node first rest) ws
is_chain node IsFirst IsPart view first [] seen more some ws parts = absurd cc
is_chain node IsFirst IsPart view first (next ∷ others) seen more some ws parts = (first, next ∷ others, refl, parts)

chain_fits : {Part Seen : Type 0} (asked levels : ℕ) (node : Expr → List Part → Expr) (IsPart : Rule Part) (view : Part → Seen) (words : Part → List Word) (made : Expr → List Seen → Expr) → asked ≤ 5
    → Within (IsChain node (IsAtLevel (IsUnary levels) (suc asked)) IsPart) (IsAtLevel (IsUnary levels) asked)
    → ((first : Expr) (rest : List Part) → spelled (node first rest) ≡ record { level = asked; words = words_at (suc asked) (spelled first) ++ flat_map words rest })
    → ((first : Expr) (rest : List Part) → unplaced_expression (node first rest) ≡ made (unplaced_expression first) (map view rest))
    → AllFit (suc asked) levels (IsAtLevel (IsUnary levels) (suc asked))
    → ((part : Part) (ws : List Word) → IsPart part ws → Again IsPart view (view part) (words part))
    → AllFit asked levels (IsChain node (IsAtLevel (IsUnary levels) (suc asked)) IsPart)
chain_fits {Part} asked levels node IsPart view words made le at_level spells sees fit again expression ws is = by_rest is.1 is.2 is.3
  where
    by_rest : (rest : List Part) → expression ≡ chain node is.0 rest → (IsAtLevel (IsUnary levels) (suc asked) is.0 ⌢ Each IsPart rest) ws → Fits asked levels expression
    by_rest [] same parts = subst (Fits asked levels) (sym same) (looser_fits asked levels is.0 (fit is.0 parts.0 parts.2))
    by_rest (next ∷ more) same parts =
        let first = part_again (suc asked) levels is.0 (omega arith) (fit is.0 parts.0 parts.2) in
        let several : Fits asked levels (node is.0 (next ∷ more)) =
        is_form asked levels (node is.0 (next ∷ more)) (record { level = asked; words = words_at (suc asked) (spelled is.0) ++ flat_map words (next ∷ more) }) (made (unplaced_expression is.0) (map view (next ∷ more)))
        (spells is.0 (next ∷ more)) (sees is.0 (next ∷ more)) (omega arith)
        (λ printed h.
        let f = cut_tree first (flat_map words (next ∷ more)) printed h in
        let others = each_again IsPart IsPart view words again (next ∷ more) parts.1 parts.3 f.cut.rest f.cut.bare_rest in
        let whole = is_chain node (IsAtLevel (IsUnary levels) (suc asked)) IsPart view f.again others.0 (view next) (map view more) others.2 printed (f.cut.front, f.cut.rest, f.cut.first, others.1, f.cut.is) in
        (node f.again others.0, at_level (node f.again others.0) printed whole, sees f.again others.0 ∙ ap (λ e. made e (map view others.0)) f.same ∙ ap (made (unplaced_expression is.0)) others.2)) in
        subst (Fits asked levels) (sym same) several

-- ---- products and sums

-- what stands after a sign is derived from the words after it
signed_again : (kind : TokenKind) (U : Rule Expr) (asked : ℕ) (of : Expr) → Again (IsAtLevel U asked) unplaced_expression (unplaced_expression of) (words_at asked (spelled of))
    → Again (λ again. IsMark kind ⌢ IsAtLevel U asked again) unplaced_expression (unplaced_expression of) (mark kind 0 ∷ words_at asked (spelled of))
signed_again kind U asked of again = λ printed h.
    let sign = cut_mark kind (words_at asked (spelled of)) printed h in
    let a = again sign.rest sign.bare_rest in
    (a.0, (sign.front, sign.rest, sign.first, a.1, sign.is), a.2)

factor_again : (levels : ℕ) → AllFit 6 levels (IsUnary levels) → (factor : Factor) (ws : List Word) → IsFactor (IsUnary levels) factor ws
    → Again (IsFactor (IsUnary levels)) forms.unplaced_factor (forms.unplaced_factor factor) (forms.spelled_factor factor)
factor_again levels fit factor ws is = λ printed h.
    let of = (out-Factor factor).of in
    let sign = cut_mark_at kinds.Star (words_at 6 (spelled of)) printed (h ∙ fold_out-Factor Spelled (List Word) (List Word) spelled_step addend_words factor_words factor) in
    let a = part_again 6 levels of (omega arith) (fit of is.1 is.3) sign.1.rest sign.1.bare_rest in
    let made : Factor-F Expr Addend Factor = record { at = sign.0; of = a.0 } in
    let seen = fold-roll-Factor Expr Addend Factor expression_step addend_step factor_step made in
    let derived = subst (λ (f : Factor-F Expr Addend Factor). (IsMarkAt kinds.Star f.at ⌢ IsUnary levels f.of) printed) (sym (out-roll-Factor made)) (sign.1.front, sign.1.rest, sign.1.first, a.1, sign.1.is) in
    (roll-Factor made, derived, seen ∙ ap (λ (e : Expr). roll-Factor (record { at = 0; of = e })) a.2 ∙ sym (fold_out-Factor Expr Addend Factor expression_step addend_step factor_step factor))

product_fits : (levels : ℕ) → AllFit 6 levels (IsUnary levels) → AllFit 5 levels (IsProduct (IsUnary levels))
product_fits levels fit =
    chain_fits 5 levels exprs.Product (IsFactor (IsUnary levels)) forms.unplaced_factor forms.spelled_factor exprs.Product (omega arith) (λ e ws is. is) forms.spelled_Product forms.unplaced_Product fit (factor_again levels fit)

addend_again : (levels : ℕ) → AllFit 5 levels (IsProduct (IsUnary levels)) → (addend : Addend) (ws : List Word) → IsAddend (IsUnary levels) addend ws
    → Again (IsAddend (IsUnary levels)) forms.unplaced_addend (forms.unplaced_addend addend) (forms.spelled_addend addend)
addend_again levels fit addend ws is = λ printed h.
    let of = (out-Addend addend).of in
    let minus = (out-Addend addend).minus in
    let words = h ∙ fold_out-Addend Spelled (List Word) (List Word) spelled_step addend_words factor_words addend in
    let a = signed_again (sum_sign minus) (IsUnary levels) 5 of (part_again 5 levels of (omega arith) (fit of is.1 is.3)) printed words in
    let made : Addend-F Expr Addend Factor = record { minus = minus; of = a.0 } in
    let seen = fold-roll-Addend Expr Addend Factor expression_step addend_step factor_step made in
    let derived = subst (λ (f : Addend-F Expr Addend Factor). (IsMark (sum_sign f.minus) ⌢ IsProduct (IsUnary levels) f.of) printed) (sym (out-roll-Addend made)) a.1 in
    (roll-Addend made, derived, seen ∙ ap (λ (e : Expr). roll-Addend (record { minus = minus; of = e })) a.2 ∙ sym (fold_out-Addend Expr Addend Factor expression_step addend_step factor_step addend))

sum_fits : (levels : ℕ) → AllFit 5 levels (IsProduct (IsUnary levels)) → AllFit 4 levels (IsSum (IsUnary levels))
sum_fits levels fit =
    chain_fits 4 levels exprs.Sum (IsAddend (IsUnary levels)) forms.unplaced_addend forms.spelled_addend exprs.Sum (omega arith) (λ e ws is. is) forms.spelled_Sum forms.unplaced_Sum fit (addend_again levels fit)

-- ---- comparisons

comparison_fits : (levels : ℕ) → AllFit 4 levels (IsSum (IsUnary levels)) → AllFit 3 levels (IsComparison (IsUnary levels))
comparison_fits levels fit expression ws is = by_rest is.1 is.2 is.3
  where
    by_rest : (rest : Option (Op × Expr)) → expression ≡ comparison is.0 rest → (IsSum (IsUnary levels) is.0 ⌢ Maybe (IsCompared (IsUnary levels)) rest) ws → Fits 3 levels expression
    by_rest None same parts = subst (Fits 3 levels) (sym same) (looser_fits 3 levels is.0 (fit is.0 parts.0 parts.2))
    by_rest (Some (op, right)) same parts =
        let first = part_again 4 levels is.0 (omega arith) (fit is.0 parts.0 parts.2) in
        let second = part_again 4 levels right (omega arith) (fit right parts.3.1 parts.3.3) in
        let compared : Fits 3 levels (exprs.Compare op is.0 right) =
        is_form 3 levels (exprs.Compare op is.0 right) (record { level = 3; words = words_at 4 (spelled is.0) ++ mark (op_sign op) 0 ∷ words_at 4 (spelled right) }) (exprs.Compare op (unplaced_expression is.0) (unplaced_expression right))
        (forms.spelled_Compare op is.0 right) (forms.unplaced_Compare op is.0 right) (omega arith)
        (λ printed h.
        let l = cut_tree first (mark (op_sign op) 0 ∷ words_at 4 (spelled right)) printed h in
        let r = signed_again (op_sign op) (IsUnary levels) 4 right second l.cut.rest l.cut.bare_rest in
        (exprs.Compare op l.again r.0, (l.again, Some (op, r.0), refl, (l.cut.front, l.cut.rest, l.cut.first, r.1, l.cut.is)), forms.unplaced_Compare op l.again r.0 ∙ ap (λ e. exprs.Compare op e (unplaced_expression r.0)) l.same ∙ ap (exprs.Compare op (unplaced_expression is.0)) r.2)) in
        subst (Fits 3 levels) (sym same) compared

-- ---- conjunctions and disjunctions

conjunction_fits : (levels : ℕ) → AllFit 3 levels (IsComparison (IsUnary levels)) → AllFit 2 levels (IsConjunction (IsUnary levels))
conjunction_fits levels fit =
    chain_fits 2 levels both (λ part. IsMark kinds.And ⌢ IsComparison (IsUnary levels) part) unplaced_expression (λ part. mark kinds.And 0 ∷ words_at 3 (spelled part)) both (omega arith) (λ e ws is. is) forms.spelled_Both (λ first rest. forms.unplaced_Both (first ∷ rest)) fit
    (λ part ws is. signed_again kinds.And (IsUnary levels) 3 part (part_again 3 levels part (omega arith) (fit part is.1 is.3)))

disjunction_fits : (levels : ℕ) → AllFit 2 levels (IsConjunction (IsUnary levels)) → AllFit 1 levels (IsDisjunction (IsUnary levels))
disjunction_fits levels fit =
    chain_fits 1 levels either (λ part. IsMark kinds.Or ⌢ IsConjunction (IsUnary levels) part) unplaced_expression (λ part. mark kinds.Or 0 ∷ words_at 2 (spelled part)) either (omega arith) (λ e ws is. is) forms.spelled_Either (λ first rest. forms.unplaced_Either (first ∷ rest)) fit
    (λ part ws is. signed_again kinds.Or (IsUnary levels) 2 part (part_again 2 levels part (omega arith) (fit part is.1 is.3)))

whole_fits : (levels : ℕ) → AllFit 6 levels (IsUnary levels) → AllFit 1 levels (IsDisjunction (IsUnary levels))
whole_fits levels fit = disjunction_fits levels (conjunction_fits levels (comparison_fits levels (sum_fits levels (product_fits levels fit))))

-- ---- unary expressions and atoms

atom_is_unary : (levels : ℕ) → Within IsAtom (IsUnary levels)
atom_is_unary zero expression ws is = is
atom_is_unary (suc levels) expression ws is = inl is

atom_fits : (levels : ℕ) → AllFit 6 levels IsAtom
atom_fits levels expression ws (inl is) = subst (Fits 6 levels) (sym is.2)
    (is_form 6 levels (exprs.Number is.1 is.0) (record { level = 7; words = numeral is.0 0 ∷ [] }) (exprs.Number 0 is.0) (forms.spelled_Number is.1 is.0) (forms.unplaced_Number is.1 is.0) (omega arith)
    (λ printed h.
    let c = cut_numeral is.0 [] printed h in
    (exprs.Number c.0 is.0, atom_is_unary levels (exprs.Number c.0 is.0) printed (inl (is.0, c.0, refl, alone (IsNumeral is.0 c.0) printed c.1)), forms.unplaced_Number c.0 is.0)))
atom_fits levels expression ws (inr (inl is)) = subst (Fits 6 levels) (sym is.2)
    (is_form 6 levels (exprs.Truth is.1 is.0) (record { level = 7; words = mark (truth_word is.0) 0 ∷ [] }) (exprs.Truth 0 is.0) (forms.spelled_Truth is.1 is.0) (forms.unplaced_Truth is.1 is.0) (omega arith)
    (λ printed h.
    let c = cut_mark_at (truth_word is.0) [] printed h in
    (exprs.Truth c.0 is.0, atom_is_unary levels (exprs.Truth c.0 is.0) printed (inr (inl (is.0, c.0, refl, alone (IsMarkAt (truth_word is.0) c.0) printed c.1))), forms.unplaced_Truth c.0 is.0)))
atom_fits levels expression ws (inr (inr is)) = subst (Fits 6 levels) (sym is.2)
    (is_form 6 levels (exprs.Named is.1 is.0) (record { level = 7; words = ident is.0 0 ∷ [] }) (exprs.Named 0 is.0) (forms.spelled_Named is.1 is.0) (forms.unplaced_Named is.1 is.0) (omega arith)
    (λ printed h.
    let c = cut_ident is.0 [] printed h in
    (exprs.Named c.0 is.0, atom_is_unary levels (exprs.Named c.0 is.0) printed (inr (inr (is.0, c.0, refl, alone (IsIdent is.0 c.0) printed c.1))), forms.unplaced_Named c.0 is.0)))

opened_fits : (levels : ℕ) → AllFit 6 levels (IsUnary levels) → AllFit 6 (suc levels) (IsOpened (IsUnary levels))
opened_fits levels fit expression ws (inl is) =
    let of = part_again 6 levels is.1 (omega arith) (fit is.1 is.3.1 is.3.3) in
    subst (Fits 6 (suc levels)) (sym is.2)
    (is_form 6 (suc levels) (exprs.Minus is.0 is.1) (record { level = 6; words = mark kinds.Minus 0 ∷ words_at 6 (spelled is.1) }) (exprs.Minus 0 (unplaced_expression is.1)) (forms.spelled_Minus is.0 is.1) (forms.unplaced_Minus is.0 is.1) (omega arith)
    (λ printed h.
    let sign = cut_mark_at kinds.Minus (words_at 6 (spelled is.1)) printed h in
    let a = of sign.1.rest sign.1.bare_rest in
    (exprs.Minus sign.0 a.0, inr (inl (sign.0, a.0, refl, (sign.1.front, sign.1.rest, sign.1.first, a.1, sign.1.is))), forms.unplaced_Minus sign.0 a.0 ∙ ap (exprs.Minus 0) a.2)))
opened_fits levels fit expression ws (inr (inl is)) =
    let of = part_again 6 levels is.1 (omega arith) (fit is.1 is.3.1 is.3.3) in
    subst (Fits 6 (suc levels)) (sym is.2)
    (is_form 6 (suc levels) (exprs.Not is.0 is.1) (record { level = 6; words = mark kinds.Not 0 ∷ words_at 6 (spelled is.1) }) (exprs.Not 0 (unplaced_expression is.1)) (forms.spelled_Not is.0 is.1) (forms.unplaced_Not is.0 is.1) (omega arith)
    (λ printed h.
    let sign = cut_mark_at kinds.Not (words_at 6 (spelled is.1)) printed h in
    let a = of sign.1.rest sign.1.bare_rest in
    (exprs.Not sign.0 a.0, inr (inr (inl (sign.0, a.0, refl, (sign.1.front, sign.1.rest, sign.1.first, a.1, sign.1.is)))), forms.unplaced_Not sign.0 a.0 ∙ ap (exprs.Not 0) a.2)))
opened_fits levels fit expression ws (inr (inr is)) =
    let fits = whole_fits levels fit expression is.3.0 is.3.2 in
    record {
      own = λ printed h.
          let a = fits.own printed h in
          (a.0, level_within (IsUnary levels) (IsUnary (suc levels)) (one_more_level levels) (spelled expression).level a.0 printed a.1, a.2);
      tight_or_less = inr fits.own;
    }

unary_fits : (levels : ℕ) → AllFit 6 levels (IsUnary levels)
unary_fits zero expression ws is = atom_fits zero expression ws is
unary_fits (suc levels) expression ws (inl is) = atom_fits (suc levels) expression ws is
unary_fits (suc levels) expression ws (inr is) = opened_fits levels (unary_fits levels) expression ws is

-- The canonical words of a derived expression, at any offsets, derive the same expression but for
-- offsets.
pub expression_again : (levels : ℕ) (expression : Expr) (ws : List Word) → IsExpression levels expression ws
    → Again (IsExpression levels) unplaced_expression (unplaced_expression expression) (expression_words expression)
expression_again levels expression ws is = λ printed h.
    let a = (whole_fits levels (unary_fits levels) expression ws is).own printed h in
    (a.0, looser (IsUnary levels) 0 (spelled expression).level (omega arith) a.0 printed a.1, a.2)
