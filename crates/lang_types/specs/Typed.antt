-- The monitor that a tree stands for.
use Rattle.std.specs.Prelude.{◌≡◌, ◌↔◌, IsTrue, ℕ, ◌+◌, ◌-◌, ◌⊎◌, ℤ, pos, neg_ℤ, ◌+ℤ◌, true, false}
use Rattle.std.specs.Prelude.{List, [], ◌∷◌, ◌++◌, length, map, All, Option, Some, None, slice_get}
use Rattle.std.specs.Prelude.{IsSomeAnd, if◌then◌else◌}
use Rattle.std.specs.List.{flat_map}
use Rattle.lang_tree.specs.declared.tree.LimitSign.{LimitSign}
use Rattle.lang_tree.specs.declared.tree.LimitSign.TheVariants as signs
use Rattle.lang_tree.specs.declared.tree.LimitTree.{LimitTree}
use Rattle.lang_tree.specs.declared.tree.Decl.{Decl}
use Rattle.lang_tree.specs.declared.tree.Decl.TheVariants as decls
use Rattle.lang_tree.specs.declared.tree.StmtTree.{StmtTree, out-StmtTree}
use Rattle.lang_tree.specs.declared.tree.StmtTree.TheOpen.{StmtTree-F, Set, If, Return}
use Rattle.lang_tree.specs.declared.tree.StmtTree.TheFolds.{fold-StmtTree}
use Rattle.lang_tree.specs.declared.tree.BlockTree.{BlockTree}
use Rattle.lang_tree.specs.declared.tree.MethodTree.{MethodTree}
use Rattle.lang_tree.specs.declared.tree.MonitorTree.{MonitorTree}
use Rattle.lang_printer.specs.Canonical.{expression_text}
use Rattle.logic_linear.specs.declared.substitution.Put.TheVariants as puts
use Rattle.lang_base.specs.declared.kind.Kind.{Kind}
use Rattle.lang_base.specs.declared.kind.Kind.TheVariants as kinds
use Rattle.lang_forms.specs.declared.scope.Meaning.{Meaning}
use Rattle.lang_forms.specs.declared.scope.Meaning.TheVariants as meanings
use Rattle.lang_forms.specs.declared.scope.Entry.{Entry}
use Rattle.lang_forms.specs.Scope.{entry_named, field_count, scope_of}
pub use Rattle.lang_forms.specs.Scope.{literal_value}
use Rattle.lang_forms.specs.Forms.{linear_of}
use Rattle.lang_forms.specs.Sense.{Sense, sense}
use Rattle.lang_rules.specs.Rules.{is_source, meets}
use Rattle.lang_base.specs.declared.value.Value.{Value}
use Rattle.lang_base.specs.declared.value.Value.TheVariants as values
use Rattle.lang_monitor.specs.declared.start.Limit.{Limit}
use Rattle.lang_monitor.specs.declared.start.Limit.TheVariants as limits
use Rattle.lang_monitor.specs.declared.start.Origin.{Origin}
use Rattle.lang_monitor.specs.declared.start.Origin.TheVariants as origins
use Rattle.lang_monitor.specs.Starts.{Admits}
use Rattle.lang_monitor.specs.declared.monitor.Field.{Field}
use Rattle.lang_monitor.specs.declared.monitor.Method.{Method}
use Rattle.lang_monitor.specs.declared.monitor.Stmt.{Stmt}
use Rattle.lang_monitor.specs.declared.monitor.Stmt.TheVariants as statements
use Rattle.lang_monitor.specs.declared.monitor.Ret.{Ret}
use Rattle.lang_monitor.specs.declared.monitor.Ret.TheVariants as rets
use Rattle.lang_monitor.specs.declared.monitor.Block.{Block}
use Rattle.lang_monitor.specs.declared.monitor.Condition.{Condition}
use Rattle.lang_monitor.specs.MonitorParts.{MonitorParts}
use Rattle.lang_monitor.specs.Inputs.{reads_inputs}

-- ---- limits

-- the numbers that compare with the bound as the sign says
abbrev pub limit_at : LimitSign → ℤ → Limit
limit_at signs.Equal bound = limits.Exactly bound
limit_at signs.Less bound = limits.AtMost (bound +ℤ neg_ℤ (pos 1))
limit_at signs.AtMost bound = limits.AtMost bound
limit_at signs.More bound = limits.AtLeast (bound +ℤ pos 1)
limit_at signs.AtLeast bound = limits.AtLeast bound

abbrev pub limit_of : LimitTree → Limit
limit_of limit = limit_at limit.sign (literal_value limit.bound)

-- the limit of a condition admits exactly the numbers that meet the condition
abbrev pub LimitsAsWritten : LimitTree → Type 0
LimitsAsWritten limit = (number : ℤ) → Admits (limit_of limit) number ↔ IsTrue (meets limit number)

-- ---- fields and methods

-- with which number an int starts, and whence it has that
pub record IntStart : Type 0 where
  pub number : ℤ
  pub origin : Origin

-- the number of a constant, or that of the parameter with this place among the fields
abbrev pub copied_from : ℕ → Decl → IntStart
copied_from place (decls.Const at name value) =
    record { number = literal_value value; origin = origins.Own }
copied_from place (decls.Param at name value limit) =
    record { number = literal_value value; origin = origins.Copied place }
copied_from place decl = record { number = pos 0; origin = origins.Own }

-- The start that copies the constant or the parameter of this name, of declarations whose first
-- field has this place. By the rules there is just one.
abbrev pub copy_of : List ℕ → ℕ → List Decl → IntStart
copy_of wanted place [] = record { number = pos 0; origin = origins.Own }
copy_of wanted place (decl ∷ more) =
    if is_source wanted decl then copied_from place decl
    else copy_of wanted (place + field_count (decl ∷ [])) more

abbrev pub int_field : List ℕ → ℤ → Origin → Field
int_field name number origin =
    record { name = name; kind = kinds.Int; start = values.Int number; origin = origin }

-- The field of a declaration, or a local's name, kind and value at the start; a constant is
-- neither. A start may be copied from what is known.
abbrev pub field_of : List Decl → Decl → List Field
field_of known (decls.Const at name value) = []
field_of known (decls.Param at name value limit) =
    int_field name (literal_value value) (origins.Chosen (limit_of limit)) ∷ []
field_of known (decls.Int at name value) = int_field name (literal_value value) origins.Own ∷ []
field_of known (decls.Copied at name source) =
    let start = copy_of source.name 0 known in int_field name start.number start.origin ∷ []
field_of known (decls.Flag at name value) =
    record { name = name; kind = kinds.Bool; start = values.Bool value; origin = origins.Own } ∷ []

abbrev pub fields_of : List Decl → List Field
fields_of declared = flat_map (field_of declared) declared

-- locals copy nothing
abbrev pub locals_of : List Decl → List Field
locals_of declared = flat_map (field_of []) declared

-- the values that the locals of a method have at the start of each call
abbrev pub starts_of : List Decl → List Value
starts_of declared = map (λ field. field.start) (locals_of declared)

-- the method of a tree, whose first block has this number
abbrev pub method_of : ℕ → MethodTree → Method
method_of number method = record {
  name = method.name;
  inputs = map (λ input. input.kind) method.inputs;
  locals = starts_of method.locals;
  asserts = method.asserts;
  first = number;
  count = length method.blocks;
}

-- the blocks of the methods follow one another, in the order of the file
abbrev pub methods_from : ℕ → List MethodTree → List Method
methods_from number [] = []
methods_from number (method ∷ methods) =
    method_of number method ∷ methods_from (number + length method.blocks) methods

-- ---- statements and results

abbrev pub assignment : List Entry → Meaning → Sense → List Stmt
assignment scope (meanings.Number number) value = []
assignment scope (meanings.Int place) value =
    statements.Put (puts.Number place (linear_of scope value.form)) ∷ []
assignment scope (meanings.Flag place) value =
    statements.Put (puts.Truth place value.formula) ∷ []

abbrev pub set_of : List Entry → Option Entry → Sense → List Stmt
set_of scope None value = []
set_of scope (Some target) value = assignment scope target.meaning value

-- a `return` is no statement of the body: it is the block's result
abbrev pub statement_of_step : List Entry → StmtTree-F (List Stmt) → List Stmt
statement_of_step scope (Set at name value) =
    set_of scope (entry_named scope name) (sense scope value)
statement_of_step scope (If at when body other) =
    statements.If (sense scope when).formula (flat_map (λ inner. inner) body)
    (flat_map (λ inner. inner) other) ∷ []
statement_of_step scope (Return at value) = []

abbrev pub statement_of : List Entry → StmtTree → List Stmt
statement_of scope = fold-StmtTree (List Stmt) (statement_of_step scope)

abbrev pub result_of_kind : List Entry → Option Kind → Sense → Ret
result_of_kind scope (Some kinds.Int) value = rets.Int (linear_of scope value.form)
result_of_kind scope (Some kinds.Bool) value = rets.Bool value.formula
result_of_kind scope None value = rets.Nothing

abbrev pub result_layer : List Entry → StmtTree-F StmtTree → Ret
result_layer scope (Return at value) =
    result_of_kind scope (sense scope value).kind (sense scope value)
result_layer scope statement = rets.Nothing

-- the result of the last statement, where it is a `return`
abbrev pub result_of : List Entry → List StmtTree → Ret
result_of scope [] = rets.Nothing
result_of scope (last ∷ []) = result_layer scope (out-StmtTree last)
result_of scope (first ∷ next ∷ more) = result_of scope (next ∷ more)

-- ---- blocks

-- a block with its method, and the method's number
pub record PlacedBlock : Type 0 where
  pub number : ℕ
  pub method : MethodTree
  pub block : BlockTree

-- some blocks of a method
abbrev pub placed_in : ℕ → MethodTree → List BlockTree → List PlacedBlock
placed_in number method blocks =
    map (λ block. record { number = number; method = method; block = block }) blocks

-- the blocks of all methods, in the order of the file; the first method has this number
abbrev pub blocks_from : ℕ → List MethodTree → List PlacedBlock
blocks_from number [] = []
blocks_from number (method ∷ methods) =
    placed_in number method method.blocks ++ blocks_from (number + 1) methods

-- The block is the tree's, in the scope of its method, which has this number. By the rules only the
-- last block of a method has a result.
pub record IsBlockOf (scope : List Entry) (number : ℕ) (tree : BlockTree) (block : Block) : Type 0
  where
    pub method_number : block.method ≡ number
    pub guard : block.guard ≡ (sense scope tree.guard).formula
    pub body : block.body ≡ flat_map (statement_of scope) tree.body
    pub result : block.result ≡ result_of scope tree.body

-- the block is that of its place in the row of all blocks
abbrev pub IsPlaced : List Decl → PlacedBlock → Block → Type 0
IsPlaced declared placed block =
    IsBlockOf (scope_of declared placed.method) placed.number placed.block block

-- one block for each place, in order
abbrev pub AreBlocksOf : List Decl → List PlacedBlock → List Block → Type 0
AreBlocksOf declared [] [] = Unit {0}
AreBlocksOf declared (placed ∷ more) (block ∷ blocks) =
    IsPlaced declared placed block × AreBlocksOf declared more blocks
AreBlocksOf declared some blocks = ⊥

-- ---- conditions: classes of equal guards that are waited for, numbered from 1 by first blocks

abbrev pub condition_of : Block → BlockTree → Condition
condition_of block tree =
    record {
      guard = block.guard;
      reads_inputs = reads_inputs block.guard;
      shown = expression_text tree.guard;
    }

-- The block has a condition that was there, or the new one after them, where none of them has its
-- guard, or, where its method asserts, none, and the number 0.
abbrev pub AreConditions : List Condition → List PlacedBlock → List Block → List Condition → Type 0
AreConditions before [] [] all = all ≡ before
AreConditions before (placed ∷ more) (block ∷ blocks) all =
    (IsSomeAnd (slice_get before (block.condition - 1)) (λ condition. condition.guard ≡ block.guard)
    × (block.condition ≡ (block.condition - 1) + 1) × AreConditions before more blocks all
    × (placed.method.asserts ≡ false))
    ⊎ ((All (λ condition. condition.guard ≡ block.guard → ⊥) before
    × (block.condition ≡ length before + 1)
    × AreConditions (before ++ condition_of block placed.block ∷ []) more blocks all
    × (placed.method.asserts ≡ false))
    ⊎ ((block.condition ≡ 0) × (placed.method.asserts ≡ true)
    × AreConditions before more blocks all))
AreConditions before some blocks all = ⊥

-- the monitor has the tree's name, fields, methods, blocks and conditions
pub record IsTyped (tree : MonitorTree) (monitor : MonitorParts) : Type 0 where
  pub name : monitor.name ≡ tree.name
  pub fields : monitor.fields ≡ fields_of tree.decls
  pub methods : monitor.methods ≡ methods_from 0 tree.methods
  pub blocks : AreBlocksOf tree.decls (blocks_from 0 tree.methods) monitor.blocks
  pub conditions :
      AreConditions [] (blocks_from 0 tree.methods) monitor.blocks monitor.conditions
