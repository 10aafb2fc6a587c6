-- What the parts of the making of a monitor say.
use Rattle.std.specs.Prelude.{◌≡◌, ℕ, ◌+◌, ◌-◌, ◌≤◌, ◌⊎◌, Bool, true, false, List, []}
use Rattle.std.specs.Prelude.{◌∷◌, ◌++◌, length, All, Some, slice_get, IsSomeAnd}
use Rattle.lang_tree.specs.declared.tree.Expr.{Expr}
use Rattle.lang_tree.specs.declared.tree.StmtTree.{StmtTree}
use Rattle.lang_tree.specs.declared.tree.BlockTree.{BlockTree}
use Rattle.lang_tree.specs.declared.tree.Decl.{Decl}
use Rattle.lang_tree.specs.declared.tree.MethodTree.{MethodTree}
use Rattle.lang_printer.specs.Canonical.{expression_text}
use Rattle.logic_linear.specs.declared.formula.Formula.{Formula}
use Rattle.lang_base.specs.declared.kind.Kind.TheVariants as kinds
use Rattle.lang_forms.specs.declared.scope.Entry.{Entry}
use Rattle.lang_forms.specs.Forms.{IsOrdered}
use Rattle.lang_forms.specs.Making.{has_small_numbers}
use Rattle.lang_base.specs.declared.source_fault.SourceFault.{SourceFault}
use Rattle.lang_forms.specs.declared.scope.Meaning.{Meaning}
use Rattle.lang_forms.specs.Scope.{entry_named}
use Rattle.lang_forms.specs.Sense.{entry_kind, is_other, meaning_kind, sense}
use Rattle.lang_base.specs.Limits.{METHOD_BLOCKS}
use Rattle.lang_rules.specs.Rules.{expected, finding, literal_faults}
use Rattle.lang_monitor.specs.declared.monitor.Stmt.{Stmt}
use Rattle.lang_monitor.specs.declared.monitor.Ret.{Ret}
use Rattle.lang_monitor.specs.declared.monitor.Block.{Block}
use Rattle.lang_monitor.specs.declared.monitor.Condition.{Condition}
use Rattle.lang_monitor.specs.Inputs.{reads_inputs}
use Rattle.lang_types.specs.Typed.{AreBlocksOf, AreConditions, PlacedBlock, assignment, blocks_from}
use Rattle.lang_types.specs.Typed.{placed_in, result_of_kind, set_of}

-- The number of the condition with a guard: one that was there, or the new one after them.
abbrev pub IsNumbered : List Condition → Formula → Expr → ℕ → List Condition → Type 0
IsNumbered before guard shown number all =
    (IsSomeAnd (slice_get before (number - 1)) (λ condition. condition.guard ≡ guard)
    × (number ≡ (number - 1) + 1) × (all ≡ before))
    ⊎ (All (λ condition. condition.guard ≡ guard → ⊥) before × (number ≡ length before + 1)
    × (all ≡ before ++ record {
      guard = guard;
      reads_inputs = reads_inputs guard;
      shown = expression_text shown;
    } ∷ []))

abbrev pub HasGuard : Formula → Condition → Type 0
HasGuard guard condition = condition.guard ≡ guard

abbrev pub LacksGuard : Formula → Condition → Type 0
LacksGuard guard condition = condition.guard ≡ guard → ⊥

-- The same number where the guard is waited for; where it is asserted there is no condition, and
-- the number is 0.
abbrev pub IsWaitNumber : Bool → List Condition → Formula → Expr → ℕ → List Condition → Type 0
IsWaitNumber asserts before guard shown number all =
    ((asserts ≡ true) × (number ≡ 0) × (all ≡ before))
    ⊎ ((asserts ≡ false) × IsNumbered before guard shown number all)

-- the block's condition has the number of its guard, where there is one
abbrev pub HasNumber : Bool → BlockTree → Block → List Condition → List Condition → Type 0
HasNumber asserts tree block before all =
    IsWaitNumber asserts before block.guard tree.guard block.condition all

-- all conditions are those of the blocks, which have their numbers
abbrev pub AreNumbered : List MethodTree → List Block → List Condition → Type 0
AreNumbered methods blocks all = AreConditions [] (blocks_from 0 methods) blocks all

-- Blocks are added to those that were there, and their new conditions to the conditions.
pub record AreAdded (declared : List Decl) (placed : List PlacedBlock) (old new : List Block)
    (before all : List Condition) : Type 0 where
  pub more : List Block
  pub after_old : new ≡ old ++ more
  pub blocks_are : AreBlocksOf declared placed more
  pub conditions_are : AreConditions before placed more all

-- all blocks of the method with this number
abbrev pub AreOfMethod : List Decl → ℕ → MethodTree → List Block → List Block → List Condition
    → List Condition → Type 0
AreOfMethod declared number method old new before all =
    AreAdded declared (placed_in number method method.blocks) old new before all

-- a method has a block, and just one where it asserts
pub record HasBlocks (method : MethodTree) : Type 0 where
  pub some : 1 ≤ length method.blocks
  pub alone : method.asserts ≡ true → length method.blocks ≡ 1

-- a method has at most four blocks, and the numbers of its locals are not too large
pub record HasSmallParts (method : MethodTree) : Type 0 where
  pub few_blocks : length method.blocks ≤ METHOD_BLOCKS
  pub literals : All (λ decl. literal_faults decl ≡ []) method.locals

-- ---- statements

-- the faults of a value that is assigned to a name, and the assignment
abbrev pub value_faults : List Entry → List ℕ → Expr → List SourceFault
value_faults scope name value = expected (entry_kind (entry_named scope name)) (sense scope value)

abbrev pub assigned : List Entry → List ℕ → Expr → List Stmt
assigned scope name value = set_of scope (entry_named scope name) (sense scope value)

abbrev pub meaning_faults : Meaning → List Entry → Expr → List SourceFault
meaning_faults meaning scope value = expected (Some (meaning_kind meaning)) (sense scope value)

abbrev pub assigned_at : List Entry → Meaning → Expr → List Stmt
assigned_at scope meaning value = assignment scope meaning (sense scope value)

-- the result that an expression is
abbrev pub value_result : List Entry → Expr → Ret
value_result scope value = result_of_kind scope (sense scope value).kind (sense scope value)

-- each statement breaks no rule
abbrev pub AreFineStatements : List Entry → List StmtTree → Type 0
AreFineStatements scope body = All (λ tree. (finding scope tree).faults ≡ []) body

-- a scope in which the block's guard and its statements break no rule
pub record IsBlockScope (tree : BlockTree) (scope : List Entry) : Type 0 where
  pub ordered_places : IsOrdered scope
  pub small_numbers : has_small_numbers scope ≡ true
  pub guard_fine : (sense scope tree.guard).faults ≡ []
  pub guard_bool : is_other kinds.Bool (sense scope tree.guard).kind ≡ false
  pub body_fine : AreFineStatements scope tree.body

-- a scope in which no block of the method breaks a rule
abbrev pub IsMethodScope : MethodTree → List Entry → Type 0
IsMethodScope method scope = All (λ tree. IsBlockScope tree scope) method.blocks
