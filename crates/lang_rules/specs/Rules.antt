-- The rules of monitor files: the faults of a tree, as the checker goes over it.
-- `Judgements` has each rule by itself; the faults listed here are exactly those.
use Rattle.std.specs.Prelude.{◌≤◌, ℕ, ℤ, Bool, false, not, ◌&&◌, nat_le, List, [], ◌∷◌, ◌++◌}
use Rattle.std.specs.Prelude.{length, map, All, Option, Some, None, slice_get, if◌then◌else◌}
use Rattle.std.specs.List.{flat_map, list_any}
use Rattle.std.specs.Str.{bytes_eq}
use Rattle.lang_tree.specs.declared.tree.Op.{Op}
use Rattle.lang_tree.specs.declared.tree.Op.TheVariants as ops
use Rattle.lang_tree.specs.declared.tree.Lit.{Lit}
use Rattle.lang_tree.specs.declared.tree.LimitSign.{LimitSign}
use Rattle.lang_tree.specs.declared.tree.LimitSign.TheVariants as signs
use Rattle.lang_tree.specs.declared.tree.LimitTree.{LimitTree}
pub use Rattle.lang_tree.specs.declared.tree.PlacedName.{PlacedName}
use Rattle.lang_tree.specs.declared.tree.Decl.{Decl}
use Rattle.lang_tree.specs.declared.tree.Decl.TheVariants as decls
use Rattle.lang_tree.specs.declared.tree.InputTree.{InputTree}
use Rattle.lang_tree.specs.declared.tree.StmtTree.{StmtTree}
use Rattle.lang_tree.specs.declared.tree.StmtTree.TheOpen.{StmtTree-F, Set, If, Return}
use Rattle.lang_tree.specs.declared.tree.StmtTree.TheFolds.{fold-StmtTree}
use Rattle.lang_tree.specs.declared.tree.BlockTree.{BlockTree}
use Rattle.lang_tree.specs.declared.tree.MethodTree.{MethodTree}
use Rattle.lang_tree.specs.declared.tree.MonitorTree.{MonitorTree}
use Rattle.lang_tree.specs.Names.{declared_name as bare_name}
use Rattle.lang_base.specs.Limits.{CONSTANTS, FIELDS, FILE_BYTES, GREATEST_NUMBER, INPUTS, LOCALS}
use Rattle.lang_base.specs.Limits.{METHODS, METHOD_BLOCKS, STATEMENTS}
use Rattle.lang_base.specs.declared.kind.Kind.{Kind}
use Rattle.lang_base.specs.declared.kind.Kind.TheVariants as kinds
use Rattle.lang_base.specs.declared.counted.Counted.{Counted}
use Rattle.lang_base.specs.declared.counted.Counted.TheVariants.{Constants, Fields, Methods}
use Rattle.lang_base.specs.declared.counted.Counted.TheVariants.{Parameters, Locals, Blocks}
use Rattle.lang_base.specs.declared.counted.Counted.TheVariants.{Statements}
use Rattle.lang_base.specs.declared.source_fault.SourceFault.{SourceFault}
use Rattle.lang_base.specs.declared.source_fault.Refusal.TheVariants.{Unknown, Duplicate, TooMany}
use Rattle.lang_base.specs.declared.source_fault.Refusal.TheVariants.{ReadOnly, Misplaced}
use Rattle.lang_base.specs.declared.source_fault.Refusal.TheVariants.{WrongStart}
use Rattle.lang_forms.specs.declared.scope.Entry.{Entry}
use Rattle.lang_forms.specs.Plain.{compared}
use Rattle.lang_forms.specs.Scope.{scope_of, entry_named, literal_value}
use Rattle.lang_forms.specs.Sense.{Sense, sense, entry_kind, wrong_type, large_number}
use Rattle.lang_base.specs.SourceFaults.{fault_at, ◌or_else◌}

-- ---- names and numbers of things

abbrev pub declared_at : Decl → ℕ
declared_at (decls.Const at name value) = at
declared_at (decls.Param at name value limit) = at
declared_at (decls.Int at name value) = at
declared_at (decls.Copied at name source) = at
declared_at (decls.Flag at name value) = at

abbrev pub declared_name : Decl → PlacedName
declared_name decl = record { name = bare_name decl; at = declared_at decl }

abbrev pub input_name : InputTree → PlacedName
input_name input = record { name = input.name; at = input.at }

abbrev pub method_name : MethodTree → PlacedName
method_name method = record { name = method.name; at = method.at }

abbrev pub declared_names : List Decl → List PlacedName
declared_names declared = map declared_name declared

abbrev pub input_names : List InputTree → List PlacedName
input_names inputs = map input_name inputs

abbrev pub method_names : List MethodTree → List PlacedName
method_names methods = map method_name methods

-- those of a method's parameters, then those of its locals
abbrev pub own_names : MethodTree → List PlacedName
own_names method = input_names method.inputs ++ declared_names method.locals

-- names that are those of earlier ones
abbrev pub repeated : List PlacedName → List PlacedName → List SourceFault
repeated earlier [] = []
repeated earlier (name ∷ more) =
    (if list_any (λ other. bytes_eq other.name name.name) earlier
    then fault_at Duplicate name.at ∷ []
    else [])
    ++ repeated (earlier ++ name ∷ []) more

abbrev pub over_at : Counted → Option ℕ → List SourceFault
over_at what None = []
over_at what (Some at) = fault_at (TooMany what) at ∷ []

-- the first one over the limit, by the places of all; those behind it are not listed
abbrev pub over : ℕ → Counted → List ℕ → List SourceFault
over limit what places = over_at what (slice_get places limit)

-- ---- statements

-- where a statement and its inner ones stand, in the order of the file
abbrev pub places_step : StmtTree-F (List ℕ) → List ℕ
places_step (Set at name value) = at ∷ []
places_step (If at when body other) =
    at ∷ (flat_map (λ inner. inner) body ++ flat_map (λ inner. inner) other)
places_step (Return at value) = at ∷ []

abbrev pub statement_places : StmtTree → List ℕ
statement_places = fold-StmtTree (List ℕ) places_step

abbrev pub places_in : List StmtTree → List ℕ
places_in body = flat_map statement_places body

-- an expression, of the wanted kind where one is wanted
abbrev pub expected : Option Kind → Sense → List SourceFault
expected None value = value.faults
expected (Some wanted) value = value.faults or_else wrong_type wanted value

-- the target of an assignment is a field or a local
abbrev pub target_faults : ℕ → Option Entry → List SourceFault
target_faults at None = fault_at Unknown at ∷ []
target_faults at (Some entry) = if entry.is_variable then [] else fault_at ReadOnly at ∷ []

-- What is found of a statement: the rules that it and its inner ones break, and where it returns.
pub record Finding : Type 0 where
  pub faults : List SourceFault
  pub returns : List ℕ

abbrev pub misplaced : List ℕ → List SourceFault
misplaced places = map (λ at. fault_at Misplaced at) places

-- no `return` stands in an `if`
abbrev pub inner_faults : List Finding → List SourceFault
inner_faults found = flat_map (λ inner. inner.faults ++ misplaced inner.returns) found

abbrev pub finding_step : List Entry → StmtTree-F Finding → Finding
finding_step scope (Set at name value) =
    let target = entry_named scope name in
    record {
      faults = target_faults at target ++ expected (entry_kind target) (sense scope value);
      returns = [];
    }
finding_step scope (If at when body other) =
    let condition = expected (Some kinds.Bool) (sense scope when) in
    record { faults = condition ++ (inner_faults body ++ inner_faults other); returns = [] }
finding_step scope (Return at value) =
    record { faults = (sense scope value).faults; returns = at ∷ [] }

abbrev pub finding : List Entry → StmtTree → Finding
finding scope = fold-StmtTree Finding (finding_step scope)

-- a `return` is the last statement of its body
abbrev pub early_returns : List Finding → List ℕ
early_returns [] = []
early_returns (last ∷ []) = []
early_returns (first ∷ next ∷ more) = first.returns ++ early_returns (next ∷ more)

abbrev pub faults_in_each : List Entry → List StmtTree → List SourceFault
faults_in_each scope body = flat_map (λ statement. (finding scope statement).faults) body

abbrev pub early_faults : List Entry → List StmtTree → List SourceFault
early_faults scope body = misplaced (early_returns (map (finding scope) body))

-- ---- blocks

-- a guard is bool
abbrev pub block_faults : List Entry → BlockTree → List SourceFault
block_faults scope block =
    expected (Some kinds.Bool) (sense scope block.guard)
    ++ faults_in_each scope block.body
    ++ over STATEMENTS Statements (places_in block.body)

abbrev pub faults_in_blocks : List Entry → List BlockTree → List SourceFault
faults_in_blocks scope blocks = flat_map (block_faults scope) blocks

-- no `return` stands in these statements
abbrev pub return_faults : List Entry → List StmtTree → List SourceFault
return_faults scope body = misplaced (flat_map (λ inner. (finding scope inner).returns) body)

-- a `return` is the last statement of its method's last block
abbrev pub early_in_blocks : List Entry → List BlockTree → List SourceFault
early_in_blocks scope [] = []
early_in_blocks scope (last ∷ []) = early_faults scope last.body
early_in_blocks scope (first ∷ next ∷ more) =
    return_faults scope first.body ++ early_in_blocks scope (next ∷ more)

-- ---- declarations

-- a written number of a declaration is at most the greatest one
abbrev pub literal_faults : Decl → List SourceFault
literal_faults (decls.Const at name value) = large_number value.at value.digits
literal_faults (decls.Param at name value limit) =
    large_number value.at value.digits ++ large_number limit.bound.at limit.bound.digits
literal_faults (decls.Int at name value) = large_number value.at value.digits
literal_faults (decls.Copied at name source) = []
literal_faults (decls.Flag at name value) = []

abbrev pub faults_in_literals : List Decl → List SourceFault
faults_in_literals declared = flat_map literal_faults declared

-- the condition of a parameter is on its own name
abbrev pub subject_faults : Decl → List SourceFault
subject_faults (decls.Param at name value limit) =
    if bytes_eq limit.subject.name name then [] else fault_at Unknown limit.subject.at ∷ []
subject_faults decl = []

-- it declares a constant or a parameter of this name
abbrev pub is_source : List ℕ → Decl → Bool
is_source wanted (decls.Const at name value) = bytes_eq name wanted
is_source wanted (decls.Param at name value limit) = bytes_eq name wanted
is_source wanted decl = false

-- a start copies a constant or a parameter that is declared before
abbrev pub source_faults : List Decl → Decl → List SourceFault
source_faults earlier (decls.Copied at name source) =
    if list_any (is_source source.name) earlier then [] else fault_at Unknown source.at ∷ []
source_faults earlier decl = []

abbrev pub faults_in_sources : List Decl → List Decl → List SourceFault
faults_in_sources earlier [] = []
faults_in_sources earlier (decl ∷ more) =
    source_faults earlier decl ++ faults_in_sources (earlier ++ decl ∷ []) more

-- the comparison of a sign
abbrev pub comparison_of : LimitSign → Op
comparison_of signs.Equal = ops.Equal
comparison_of signs.Less = ops.Less
comparison_of signs.AtMost = ops.AtMost
comparison_of signs.More = ops.More
comparison_of signs.AtLeast = ops.AtLeast

-- the number compares with the bound as the condition says
abbrev pub meets : LimitTree → ℤ → Bool
meets limit number = compared (comparison_of limit.sign) number (literal_value limit.bound)

-- neither number is too large, and the own one doesn't meet the condition
abbrev pub is_wrong_start : Lit → LimitTree → Bool
is_wrong_start value limit =
    nat_le value.digits GREATEST_NUMBER
    && (nat_le limit.bound.digits GREATEST_NUMBER && not (meets limit (literal_value value)))

-- a parameter's own number meets its condition
abbrev pub start_faults : Decl → List SourceFault
start_faults (decls.Param at name value limit) =
    if is_wrong_start value limit then fault_at WrongStart value.at ∷ [] else []
start_faults decl = []

-- the rules of parameters and of starts that are copied
abbrev pub faults_in_starts : List Decl → List SourceFault
faults_in_starts declared =
    flat_map subject_faults declared
    ++ faults_in_sources [] declared
    ++ flat_map start_faults declared

-- ---- methods

-- parameters and locals have names distinct from each other and from declarations
abbrev pub own_faults : List Decl → MethodTree → List SourceFault
own_faults declared method =
    repeated (declared_names declared) (own_names method)
    ++ over INPUTS Parameters (map (λ input. input.at) method.inputs)
    ++ over LOCALS Locals (map declared_at method.locals)
    ++ over METHOD_BLOCKS Blocks (map (λ block. block.at) method.blocks)
    ++ faults_in_literals method.locals

abbrev pub method_faults : List Decl → MethodTree → List SourceFault
method_faults declared method =
    own_faults declared method
    ++ faults_in_blocks (scope_of declared method) method.blocks
    ++ early_in_blocks (scope_of declared method) method.blocks

abbrev pub faults_in_methods : List Decl → List MethodTree → List SourceFault
faults_in_methods declared methods = flat_map (method_faults declared) methods

-- ---- files

abbrev pub constant_place : Decl → List ℕ
constant_place (decls.Const at name value) = at ∷ []
constant_place (decls.Param at name value limit) = []
constant_place (decls.Int at name value) = []
constant_place (decls.Copied at name source) = []
constant_place (decls.Flag at name value) = []

abbrev pub field_place : Decl → List ℕ
field_place (decls.Const at name value) = []
field_place (decls.Param at name value limit) = at ∷ []
field_place (decls.Int at name value) = at ∷ []
field_place (decls.Copied at name source) = at ∷ []
field_place (decls.Flag at name value) = at ∷ []

-- constants, parameters, fields and methods have distinct names
abbrev pub faults_of : MonitorTree → List SourceFault
faults_of tree =
    faults_in_literals tree.decls
    ++ faults_in_starts tree.decls
    ++ repeated [] (declared_names tree.decls ++ method_names tree.methods)
    ++ over CONSTANTS Constants (flat_map constant_place tree.decls)
    ++ over FIELDS Fields (flat_map field_place tree.decls)
    ++ over METHODS Methods (map (λ method. method.at) tree.methods)
    ++ faults_in_methods tree.decls tree.methods

-- No list of names is longer than a file can hold, so that places fit.
pub record HasFewNames (tree : MonitorTree) : Type 0 where
  pub declared : length tree.decls ≤ FILE_BYTES
  pub taken : All (λ method. length method.inputs ≤ FILE_BYTES) tree.methods
  pub locals : All (λ method. length method.locals ≤ FILE_BYTES) tree.methods
