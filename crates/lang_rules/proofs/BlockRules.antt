-- The rules of blocks: a fault is one of the guard or of a statement, or a rule of a block itself.
use Rattle.std.proofs.Common.{◌≡◌, ℕ, List, [], ◌∷◌, ◌++◌, map, refl, sym, ap, subst, inl, inr, Option, Some, None}
use Rattle.std.specs.Prelude.{◌⊎◌}
use Rattle.std.specs.List.{Contains, flat_map, slice_get}
use Rattle.std.proofs.lemmas.List.Elements.{Contains-append_cases, Contains-append_left, Contains-append_right}
use Rattle.lang_tree.specs.declared.tree.Expr.{Expr}
use Rattle.lang_tree.specs.declared.tree.StmtTree.{StmtTree, out-StmtTree}
use Rattle.lang_tree.specs.declared.tree.BlockTree.{BlockTree}
use Rattle.lang_base.specs.Limits.{STATEMENTS}
use Rattle.lang_base.specs.declared.kind.Kind.{Kind}
use Rattle.lang_base.specs.declared.kind.Kind.TheVariants as kinds
use Rattle.lang_base.specs.declared.counted.Counted.{Counted}
use Rattle.lang_base.specs.declared.counted.Counted.TheVariants as counted
use Rattle.lang_base.specs.SourceFaults.{fault_at}
use Rattle.lang_base.specs.declared.source_fault.SourceFault.{SourceFault}
use Rattle.lang_base.specs.declared.source_fault.Refusal.{Refusal}
use Rattle.lang_base.specs.declared.source_fault.Refusal.TheVariants as refusals
use Rattle.lang_forms.specs.declared.scope.Entry.{Entry}
use Rattle.lang_forms.specs.Sense.{sense}
use Rattle.lang_rules.specs.Rules.{Finding, block_faults, early_in_blocks, early_returns, expected, faults_in_each, finding, over, over_at, places_in, return_faults}
use Rattle.lang_rules.specs.Occurrences.{HasExpression, HasStatement, expression_of}
use Rattle.lang_rules.specs.Judgements.{HasEarlyReturn, IsFine, IsFirstOver, IsOther, IsReturn, ReturnsBeforeLast}
use Rattle.lang_base.proofs.Members.{contains_head, contains_tail, first_or_later, from_flat_map, in_flat_map, none_in, only_in}
use Rattle.lang_rules.proofs.PartRules.{WrongAt}
use Rattle.lang_rules.proofs.ExpressionRules.{BreaksHere, from_expression, in_expression}
use Rattle.lang_rules.proofs.StatementRules.{BreaksStatement, BrokenStatement, below_in, break_in, expected_cases, expression_in, fault_expected, from_misplaced, from_statement, in_misplaced, is_return, other_expected, return_in}

-- ---- the first one over a limit

pub record FirstOver (limit : ℕ) (what : Counted) (places : List ℕ) (fault : SourceFault) : Type 0 where
  pub at : ℕ
  pub is : fault ≡ fault_at (refusals.TooMany what) at
  pub first : IsFirstOver limit at places

pub from_over : (limit : ℕ) (what : Counted) (places : List ℕ) (fault : SourceFault) → Contains (over limit what places) fault → FirstOver limit what places fault
from_over limit what places fault within = by_place (slice_get places limit) refl within
  where
    by_place : (place : Option ℕ) → slice_get places limit ≡ place → Contains (over_at what place) fault → FirstOver limit what places fault
    by_place None is within = none_in fault within
    by_place (Some at) is within = record { at = at; is = sym (only_in (fault_at (refusals.TooMany what) at) fault within); first = is }

pub in_over : (limit : ℕ) (what : Counted) (places : List ℕ) (at : ℕ) → IsFirstOver limit at places → Contains (over limit what places) (fault_at (refusals.TooMany what) at)
in_over limit what places at first = rw first (contains_head (fault_at (refusals.TooMany what) at) [])

-- ---- returns of a body

abbrev early : List Entry → List StmtTree → List ℕ
early scope body = early_returns (map (finding scope) body)

one_later : (at : ℕ) (first : StmtTree) (body : List StmtTree) → HasEarlyReturn at body → HasEarlyReturn at (first ∷ body)
one_later at first body (before, statement, next, after, split, returns) = (first ∷ before, statement, next, after, ap (λ more. first ∷ more) split, returns)

from_early : (scope : List Entry) (body : List StmtTree) (at : ℕ) → Contains (early scope body) at → HasEarlyReturn at body
from_early scope [] at within = none_in at within
from_early scope (last ∷ []) at within = none_in at within
from_early scope (first ∷ next ∷ more) at within =
    elim (Contains-append_cases (finding scope first).returns (early scope (next ∷ more)) at within) [
      | inl here ↦ ([], first, next, more, refl, is_return scope first at here)
      | inr later ↦ one_later at first (next ∷ more) (from_early scope (next ∷ more) at later)
    ]

early_more : (found : Finding) (list : List Finding) (at : ℕ) → Contains (early_returns list) at → Contains (early_returns (found ∷ list)) at
early_more found [] at within = none_in at within
early_more found (next ∷ more) at within = Contains-append_right found.returns (early_returns (next ∷ more)) at within

early_in : (scope : List Entry) (before : List StmtTree) (statement next : StmtTree) (after : List StmtTree) (at : ℕ) → IsReturn at (out-StmtTree statement) → Contains (early scope (before ++ statement ∷ next ∷ after)) at
early_in scope [] statement next after at returns = Contains-append_left (finding scope statement).returns (early scope (next ∷ after)) at (return_in scope statement at returns)
early_in scope (first ∷ before) statement next after at returns = early_more (finding scope first) (map (finding scope) (before ++ statement ∷ next ∷ after)) at (early_in scope before statement next after at returns)

in_early : (scope : List Entry) (body : List StmtTree) (at : ℕ) → HasEarlyReturn at body → Contains (early scope body) at
in_early scope body at (before, statement, next, after, split, returns) = subst (λ (list : List StmtTree). Contains (early scope list) at) (sym split) (early_in scope before statement next after at returns)

-- ---- returns of blocks

-- a `return` is early in its block, or its block is not the last one
abbrev pub ReturnsEarly : ℕ → List BlockTree → Type 0
ReturnsEarly at blocks =
    ((block : BlockTree) × Contains blocks block × HasEarlyReturn at block.body)
    ⊎ ReturnsBeforeLast at blocks

pub record EarlyAt (blocks : List BlockTree) (fault : SourceFault) : Type 0 where
  pub at : ℕ
  pub is : fault ≡ fault_at refusals.Misplaced at
  pub early : ReturnsEarly at blocks

early_later : (at : ℕ) (first : BlockTree) (blocks : List BlockTree) → ReturnsEarly at blocks → ReturnsEarly at (first ∷ blocks)
early_later at first blocks (inl (block, own, early)) = inl (block, contains_tail first block blocks own, early)
early_later at first blocks (inr (before, block, next, after, split, returns)) = inr (first ∷ before, block, next, after, ap (λ more. first ∷ more) split, returns)

block_later : (first : BlockTree) (blocks : List BlockTree) (fault : SourceFault) → EarlyAt blocks fault → EarlyAt (first ∷ blocks) fault
block_later first blocks fault found = record { at = found.at; is = found.is; early = early_later found.at first blocks found.early }

pub from_early_blocks : (scope : List Entry) (blocks : List BlockTree) (fault : SourceFault) → Contains (early_in_blocks scope blocks) fault → EarlyAt blocks fault
from_early_blocks scope [] fault within = none_in fault within
from_early_blocks scope (last ∷ []) fault within =
    let found = from_misplaced (early scope last.body) fault within in
    record { at = found.0; is = found.1; early = inl (last, contains_head last [], from_early scope last.body found.0 found.2) }
from_early_blocks scope (first ∷ next ∷ more) fault within =
    elim (Contains-append_cases (return_faults scope first.body) (early_in_blocks scope (next ∷ more)) fault within) [
      | inl here ↦
          let found = from_misplaced (flat_map (λ inner. (finding scope inner).returns) first.body) fault here in
          let source = from_flat_map (λ inner. (finding scope inner).returns) first.body found.0 found.2 in
          record { at = found.0; is = found.1; early = inr ([], first, next, more, refl, (source.from, source.one, is_return scope source.from found.0 source.within)) }
      | inr later ↦ block_later first (next ∷ more) fault (from_early_blocks scope (next ∷ more) fault later)
    ]

return_of_body : (scope : List Entry) (body : List StmtTree) (statement : StmtTree) (at : ℕ) → Contains body statement → IsReturn at (out-StmtTree statement) → Contains (return_faults scope body) (fault_at refusals.Misplaced at)
return_of_body scope body statement at one returns =
    in_misplaced (flat_map (λ inner. (finding scope inner).returns) body) at (in_flat_map (λ inner. (finding scope inner).returns) body statement at one (return_in scope statement at returns))

early_of_body : (scope : List Entry) (body : List StmtTree) (at : ℕ) → HasEarlyReturn at body → Contains (return_faults scope body) (fault_at refusals.Misplaced at)
early_of_body scope body at (before, statement, next, after, split, returns) =
    let one = Contains-append_right before (statement ∷ next ∷ after) statement (contains_head statement (next ∷ after)) in
    return_of_body scope body statement at (subst (λ (list : List StmtTree). Contains list statement) (sym split) one) returns

more_blocks : (scope : List Entry) (first : BlockTree) (blocks : List BlockTree) (fault : SourceFault) → Contains (early_in_blocks scope blocks) fault → Contains (early_in_blocks scope (first ∷ blocks)) fault
more_blocks scope first [] fault within = none_in fault within
more_blocks scope first (next ∷ more) fault within = Contains-append_right (return_faults scope first.body) (early_in_blocks scope (next ∷ more)) fault within

early_of_block : (scope : List Entry) (blocks : List BlockTree) (block : BlockTree) (at : ℕ) → Contains blocks block → HasEarlyReturn at block.body → Contains (early_in_blocks scope blocks) (fault_at refusals.Misplaced at)
early_of_block scope [] block at own returns = none_in block own
early_of_block scope (last ∷ []) block at own returns =
    let here = subst (λ (block : BlockTree). HasEarlyReturn at block.body) (sym (only_in last block own)) returns in
    in_misplaced (early scope last.body) at (in_early scope last.body at here)
early_of_block scope (first ∷ next ∷ more) block at own returns =
    elim (first_or_later first block (next ∷ more) own) [
      | inl is ↦
          let here = early_of_body scope first.body at (subst (λ (block : BlockTree). HasEarlyReturn at block.body) (sym is) returns) in
          Contains-append_left (return_faults scope first.body) (early_in_blocks scope (next ∷ more)) (fault_at refusals.Misplaced at) here
      | inr later ↦ more_blocks scope first (next ∷ more) (fault_at refusals.Misplaced at) (early_of_block scope (next ∷ more) block at later returns)
    ]

before_last : (scope : List Entry) (before : List BlockTree) (block next : BlockTree) (after : List BlockTree) (at : ℕ) → Contains (return_faults scope block.body) (fault_at refusals.Misplaced at) → Contains (early_in_blocks scope (before ++ block ∷ next ∷ after)) (fault_at refusals.Misplaced at)
before_last scope [] block next after at here = Contains-append_left (return_faults scope block.body) (early_in_blocks scope (next ∷ after)) (fault_at refusals.Misplaced at) here
before_last scope (first ∷ before) block next after at here = more_blocks scope first (before ++ block ∷ next ∷ after) (fault_at refusals.Misplaced at) (before_last scope before block next after at here)

pub in_early_blocks : (scope : List Entry) (blocks : List BlockTree) (at : ℕ) → ReturnsEarly at blocks → Contains (early_in_blocks scope blocks) (fault_at refusals.Misplaced at)
in_early_blocks scope blocks at (inl (block, own, early)) = early_of_block scope blocks block at own early
in_early_blocks scope blocks at (inr (before, block, next, after, split, (statement, one, returns))) =
    subst (λ (list : List BlockTree). Contains (early_in_blocks scope list) (fault_at refusals.Misplaced at)) (sym split)
    (before_last scope before block next after at (return_of_body scope block.body statement at one returns))

-- ---- blocks

-- a block breaks the rule of a fault, as a block
abbrev pub BlockRule : List Entry → BlockTree → Refusal → ℕ → Type 0
BlockRule scope block refusals.WrongType at = IsOther scope kinds.Bool at block.guard
BlockRule scope block (refusals.TooMany counted.Statements) at = IsFirstOver STATEMENTS at (places_in block.body)
BlockRule scope block what at = ⊥

abbrev BlockBreaks : List Entry → BlockTree → SourceFault → Type 0
BlockBreaks scope block fault = BlockRule scope block fault.what fault.at

abbrev ExpressionBreaks : List Entry → BlockTree → SourceFault → Type 0
ExpressionBreaks scope block fault = (expression : Expr) × HasExpression block expression × BreaksHere scope expression fault

abbrev StatementBreaks : List Entry → BlockTree → SourceFault → Type 0
StatementBreaks scope block fault = (statement : StmtTree) × HasStatement block statement × BreaksStatement scope statement fault

-- what a fault of a block comes from
abbrev pub BlockCases : List Entry → BlockTree → SourceFault → Type 0
BlockCases scope block fault =
    BlockBreaks scope block fault
    ⊎ ExpressionBreaks scope block fault
    ⊎ StatementBreaks scope block fault

wrong_guard : (scope : List Entry) (block : BlockTree) (fault : SourceFault) (kind : Kind) → Some kinds.Bool ≡ Some kind → IsFine scope block.guard → WrongAt scope kind block.guard fault → BlockBreaks scope block fault
wrong_guard scope block fault kind is fine wrong =
    let same : kinds.Bool ≡ kind = cc in
    let here = subst (λ (kind : Kind). WrongAt scope kind block.guard fault) (sym same) wrong in
    subst (BlockBreaks scope block) (sym wrong.is) (record { begins = refl; fine = fine; other = here.other })

from_guard : (scope : List Entry) (block : BlockTree) (fault : SourceFault) → Contains (expected (Some kinds.Bool) (sense scope block.guard)) fault → BlockCases scope block fault
from_guard scope block fault within =
    elim (expected_cases scope (Some kinds.Bool) block.guard fault within) [
      | inl here ↦ let broken = from_expression scope block.guard fault here in inr (inl (broken.inner, inl broken.stands, broken.breaks))
      | inr wrong ↦ inl (wrong_guard scope block fault wrong.0 wrong.1 wrong.2 wrong.3)
    ]

from_broken : (scope : List Entry) (block : BlockTree) (outer : StmtTree) (fault : SourceFault) → Contains block.body outer → BrokenStatement scope outer fault → BlockCases scope block fault
from_broken scope block outer fault one broken =
    elim broken.breaks [
      | inl breaks ↦ inr (inr (broken.inner, (outer, one, broken.stands), breaks))
      | inr expression ↦ inr (inl (expression.inner, inr (broken.inner, (outer, one, broken.stands), expression.stands), expression.breaks))
    ]

pub from_block : (scope : List Entry) (block : BlockTree) (fault : SourceFault) → Contains (block_faults scope block) fault → BlockCases scope block fault
from_block scope block fault within =
    let guard = expected (Some kinds.Bool) (sense scope block.guard) in
    let each = faults_in_each scope block.body in
    elim (Contains-append_cases (guard ++ each) (over STATEMENTS counted.Statements (places_in block.body)) fault within) [
      | inl front ↦ elim (Contains-append_cases guard each fault front) [
        | inl test ↦ from_guard scope block fault test
        | inr inner ↦
            let source = from_flat_map (λ statement. (finding scope statement).faults) block.body fault inner in
            from_broken scope block source.from fault source.one (from_statement scope source.from fault source.within)
      ]
      | inr many ↦ let found = from_over STATEMENTS counted.Statements (places_in block.body) fault many in inl (subst (BlockBreaks scope block) (sym found.is) found.first)
    ]

-- ---- what a block breaks is among its faults

guard_in : (scope : List Entry) (block : BlockTree) (fault : SourceFault) → Contains (expected (Some kinds.Bool) (sense scope block.guard)) fault → Contains (block_faults scope block) fault
guard_in scope block fault within =
    let guard = expected (Some kinds.Bool) (sense scope block.guard) in
    let each = faults_in_each scope block.body in
    let many = over STATEMENTS counted.Statements (places_in block.body) in
    Contains-append_left (guard ++ each) many fault (Contains-append_left guard each fault within)

statement_in : (scope : List Entry) (block : BlockTree) (statement : StmtTree) (fault : SourceFault) → HasStatement block statement → Contains (finding scope statement).faults fault → Contains (block_faults scope block) fault
statement_in scope block statement fault (outer, one, stands) within =
    let guard = expected (Some kinds.Bool) (sense scope block.guard) in
    let each = faults_in_each scope block.body in
    let many = over STATEMENTS counted.Statements (places_in block.body) in
    Contains-append_left (guard ++ each) many fault
    (Contains-append_right guard each fault
    (in_flat_map (λ statement. (finding scope statement).faults) block.body outer fault one (below_in scope stands.0 outer statement fault stands.1 within)))

many_in : (scope : List Entry) (block : BlockTree) (at : ℕ) → IsFirstOver STATEMENTS at (places_in block.body) → Contains (block_faults scope block) (fault_at (refusals.TooMany counted.Statements) at)
many_in scope block at first =
    let guard = expected (Some kinds.Bool) (sense scope block.guard) in
    let each = faults_in_each scope block.body in
    let many = over STATEMENTS counted.Statements (places_in block.body) in
    Contains-append_right (guard ++ each) many (fault_at (refusals.TooMany counted.Statements) at) (in_over STATEMENTS counted.Statements (places_in block.body) at first)

expression_in_block : (scope : List Entry) (block : BlockTree) (expression : Expr) (fault : SourceFault) → HasExpression block expression → BreaksHere scope expression fault → Contains (block_faults scope block) fault
expression_in_block scope block expression fault (inl stands) breaks =
    guard_in scope block fault (fault_expected scope (Some kinds.Bool) block.guard fault (in_expression scope stands.0 block.guard expression fault stands.1 breaks))
expression_in_block scope block expression fault (inr (statement, has, stands)) breaks =
    statement_in scope block statement fault has (expression_in scope statement fault (in_expression scope stands.0 (expression_of statement) expression fault stands.1 breaks))

block_rule_in : (scope : List Entry) (block : BlockTree) (what : Refusal) (at : ℕ) → BlockBreaks scope block (fault_at what at) → Contains (block_faults scope block) (fault_at what at)
block_rule_in scope block refusals.WrongType at breaks = guard_in scope block (fault_at refusals.WrongType at) (other_expected scope kinds.Bool at block.guard breaks)
block_rule_in scope block (refusals.TooMany counted.Statements) at breaks = many_in scope block at breaks
block_rule_in scope block what at breaks = absurd breaks

block_breaks_in : (scope : List Entry) (block : BlockTree) (fault : SourceFault) → BlockBreaks scope block fault → Contains (block_faults scope block) fault
block_breaks_in scope block fault breaks = block_rule_in scope block fault.what fault.at breaks

pub block_in : (scope : List Entry) (block : BlockTree) (fault : SourceFault) → BlockCases scope block fault → Contains (block_faults scope block) fault
block_in scope block fault (inl breaks) = block_breaks_in scope block fault breaks
block_in scope block fault (inr (inl (expression, has, breaks))) = expression_in_block scope block expression fault has breaks
block_in scope block fault (inr (inr (statement, has, breaks))) = statement_in scope block statement fault has (break_in scope statement fault breaks)
