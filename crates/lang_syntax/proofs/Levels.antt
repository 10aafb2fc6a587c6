-- Expressions at the levels of precedence, and how many levels may be opened.
use Rattle.std.proofs.Common.{◌≡◌, ℕ, zero, suc, ◌≤◌, inl, inr, List, [], refl, sym, subst, append-nil, arith, Option, Some, None}
use Rattle.std.proofs.Math.Nat.{le-suc_iff}
use Rattle.lang_tokens.specs.declared.token.TokenKind.TheVariants as kinds
use Rattle.lang_tree.specs.declared.tree.Op.{Op}
use Rattle.lang_tree.specs.declared.tree.Expr.{Expr}
use Rattle.lang_tree.specs.declared.tree.Factor.{out-Factor}
use Rattle.lang_tree.specs.declared.tree.Addend.{out-Addend}
use Rattle.lang_tree.specs.declared.tree.Expr.TheVariants as exprs
use Rattle.lang_tokens.specs.Words.{Word}
use Rattle.lang_syntax.specs.Grammar.{Rule, Maybe, ◌⌢◌, IsMark, IsChain, IsFactor, IsProduct, IsAddend, IsSum, IsCompared, IsComparison, both, IsConjunction, either, IsDisjunction, IsOpened, IsUnary}
use Rattle.lang_syntax.proofs.PrintedWords.{Within, each_within}

-- ---- the levels, 1 for a disjunction to 6 and more for a unary expression

abbrev pub IsAtLevel : Rule Expr → ℕ → Rule Expr
IsAtLevel IsUnary zero = IsDisjunction IsUnary
IsAtLevel IsUnary (suc zero) = IsDisjunction IsUnary
IsAtLevel IsUnary (suc (suc zero)) = IsConjunction IsUnary
IsAtLevel IsUnary (suc (suc (suc zero))) = IsComparison IsUnary
IsAtLevel IsUnary (suc (suc (suc (suc zero)))) = IsSum IsUnary
IsAtLevel IsUnary (suc (suc (suc (suc (suc zero))))) = IsProduct IsUnary
IsAtLevel IsUnary (suc (suc (suc (suc (suc (suc n)))))) = IsUnary

-- a chain of one part
one_part : {Part : Type 0} (node : Expr → List Part → Expr) (IsFirst : Rule Expr) (IsPart : Rule Part) → Within IsFirst (IsChain node IsFirst IsPart)
one_part node IsFirst IsPart e ws is = (e, [], refl, (ws, [], is, refl, sym (append-nil ws)))

next_looser : (U : Rule Expr) (n : ℕ) → Within (IsAtLevel U (suc n)) (IsAtLevel U n)
next_looser U zero e ws is = is
next_looser U (suc zero) e ws is = one_part either (IsConjunction U) (λ part. IsMark kinds.Or ⌢ IsConjunction U part) e ws is
next_looser U (suc (suc zero)) e ws is = one_part both (IsComparison U) (λ part. IsMark kinds.And ⌢ IsComparison U part) e ws is
next_looser U (suc (suc (suc zero))) e ws is = (e, None, refl, (ws, [], is, refl, sym (append-nil ws)))
next_looser U (suc (suc (suc (suc zero)))) e ws is = one_part exprs.Sum (IsProduct U) (IsAddend U) e ws is
next_looser U (suc (suc (suc (suc (suc zero))))) e ws is = one_part exprs.Product U (IsFactor U) e ws is
next_looser U (suc (suc (suc (suc (suc (suc n)))))) e ws is = is

pub looser : (U : Rule Expr) (asked n : ℕ) → asked ≤ n → Within (IsAtLevel U n) (IsAtLevel U asked)
looser U asked zero le e ws is = let nothing : zero ≡ asked = omega arith in subst (λ n. IsAtLevel U n e ws) nothing is
looser U asked (suc n) le e ws is =
    elim (le-suc_iff.0 le) [ inl below ↦ looser U asked n below e ws (next_looser U n e ws is) | inr same ↦ subst (λ n. IsAtLevel U n e ws) (sym same) is ]

-- ---- more levels do no harm

chain_within : {Part : Type 0} (node : Expr → List Part → Expr) (A B : Rule Expr) (C D : Rule Part) → Within A B → Within C D → Within (IsChain node A C) (IsChain node B D)
chain_within node A B C D first others e ws is = (is.0, is.1, is.2, (is.3.0, is.3.1, first is.0 is.3.0 is.3.2, each_within C D others is.1 is.3.1 is.3.3, is.3.4))

pub product_within : (U V : Rule Expr) → Within U V → Within (IsProduct U) (IsProduct V)
product_within U V within = chain_within exprs.Product U V (IsFactor U) (IsFactor V) within (λ factor ws is. (is.0, is.1, is.2, within (out-Factor factor).of is.1 is.3, is.4))

pub sum_within : (U V : Rule Expr) → Within U V → Within (IsSum U) (IsSum V)
sum_within U V within =
    chain_within exprs.Sum (IsProduct U) (IsProduct V) (IsAddend U) (IsAddend V) (product_within U V within) (λ addend ws is. (is.0, is.1, is.2, product_within U V within (out-Addend addend).of is.1 is.3, is.4))

pub comparison_within : (U V : Rule Expr) → Within U V → Within (IsComparison U) (IsComparison V)
comparison_within U V within e ws is = (is.0, is.1, is.2, (is.3.0, is.3.1, sum_within U V within is.0 is.3.0 is.3.2, rest is.1 is.3.1 is.3.3, is.3.4))
  where
    rest : (rest : Option (Op × Expr)) (ws : List Word) → Maybe (IsCompared U) rest ws → Maybe (IsCompared V) rest ws
    rest None ws is = is
    rest (Some (op, right)) ws is = (is.0, is.1, is.2, sum_within U V within right is.1 is.3, is.4)

pub conjunction_within : (U V : Rule Expr) → Within U V → Within (IsConjunction U) (IsConjunction V)
conjunction_within U V within =
    chain_within both (IsComparison U) (IsComparison V) (λ part. IsMark kinds.And ⌢ IsComparison U part) (λ part. IsMark kinds.And ⌢ IsComparison V part)
    (comparison_within U V within) (λ part ws is. (is.0, is.1, is.2, comparison_within U V within part is.1 is.3, is.4))

pub disjunction_within : (U V : Rule Expr) → Within U V → Within (IsDisjunction U) (IsDisjunction V)
disjunction_within U V within =
    chain_within either (IsConjunction U) (IsConjunction V) (λ part. IsMark kinds.Or ⌢ IsConjunction U part) (λ part. IsMark kinds.Or ⌢ IsConjunction V part)
    (conjunction_within U V within) (λ part ws is. (is.0, is.1, is.2, conjunction_within U V within part is.1 is.3, is.4))

pub level_within : (U V : Rule Expr) → Within U V → (n : ℕ) → Within (IsAtLevel U n) (IsAtLevel V n)
level_within U V within zero = disjunction_within U V within
level_within U V within (suc zero) = disjunction_within U V within
level_within U V within (suc (suc zero)) = conjunction_within U V within
level_within U V within (suc (suc (suc zero))) = comparison_within U V within
level_within U V within (suc (suc (suc (suc zero)))) = sum_within U V within
level_within U V within (suc (suc (suc (suc (suc zero))))) = product_within U V within
level_within U V within (suc (suc (suc (suc (suc (suc n)))))) = within

opened_within : (U V : Rule Expr) → Within U V → Within (IsOpened U) (IsOpened V)
opened_within U V within e ws (inl is) = inl (is.0, is.1, is.2, (is.3.0, is.3.1, is.3.2, within is.1 is.3.1 is.3.3, is.3.4))
opened_within U V within e ws (inr (inl is)) = inr (inl (is.0, is.1, is.2, (is.3.0, is.3.1, is.3.2, within is.1 is.3.1 is.3.3, is.3.4)))
opened_within U V within e ws (inr (inr is)) = inr (inr (is.0, is.1, is.2, (is.3.0, is.3.1, disjunction_within U V within e is.3.0 is.3.2, is.3.3, is.3.4), is.4))

pub one_more_level : (levels : ℕ) → Within (IsUnary levels) (IsUnary (suc levels))
one_more_level zero e ws is = inl is
one_more_level (suc levels) e ws (inl is) = inl is
one_more_level (suc levels) e ws (inr is) = inr (opened_within (IsUnary levels) (IsUnary (suc levels)) (one_more_level levels) e ws is)
