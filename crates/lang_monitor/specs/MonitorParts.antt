-- What contracts see of a monitor, and the rule that each monitor meets.
use Rattle.std.specs.Prelude.{◌≡◌, ◌≢◌, ◌↔◌, ℕ, ◌+◌, ◌-◌, ◌^◌, ◌≤◌, ◌<◌, Bool, true, false, ◌&&◌}
use Rattle.std.specs.Prelude.{nat_lt, List, [], ◌∷◌, ◌++◌, length, All, AllPairs, map, Option}
use Rattle.std.specs.Prelude.{Some, None, IsSomeAnd, slice_get, if◌then◌else◌}
use Rattle.std.specs.List.{list_all}
use Rattle.logic_linear.specs.declared.form.Term.{Term}
use Rattle.logic_linear.specs.Linear.{Linear}
use Rattle.logic_linear.specs.declared.formula.Formula.{Formula}
use Rattle.logic_linear.specs.declared.formula.Formula.TheOpen.{Formula-F, Row, Flag, All as Every}
use Rattle.logic_linear.specs.declared.formula.Formula.TheOpen.{Any as Some_of}
use Rattle.logic_linear.specs.declared.formula.Formula.TheFolds.{fold-Formula}
use Rattle.logic_linear.specs.declared.substitution.Put.{Put}
use Rattle.logic_linear.specs.declared.substitution.Put.TheVariants.{Number, Truth}
use Rattle.lang_base.specs.Limits.{FIELDS, METHODS, INPUTS, LOCALS, METHOD_BLOCKS, BLOCKS}
use Rattle.lang_base.specs.Limits.{CONDITIONS, FIRST_INPUT, FIRST_LOCAL, MOST_TIMES}
use Rattle.lang_base.specs.Identifiers.{IsIdentifier}
use Rattle.lang_base.specs.Numbers.{is_within}
use Rattle.lang_base.specs.declared.kind.Kind.{Kind}
use Rattle.lang_base.specs.declared.kind.Kind.TheVariants as kinds
use Rattle.lang_base.specs.declared.value.Value.{Value}
use Rattle.lang_base.specs.declared.value.Value.TheVariants as values
use Rattle.lang_monitor.specs.declared.monitor.Field.{Field}
use Rattle.lang_monitor.specs.declared.monitor.Method.{Method}
use Rattle.lang_monitor.specs.declared.monitor.Stmt.{Stmt}
use Rattle.lang_monitor.specs.declared.monitor.Ret.{Ret}
use Rattle.lang_monitor.specs.declared.monitor.Ret.TheVariants as rets
use Rattle.lang_monitor.specs.declared.monitor.Block.{Block}
use Rattle.lang_monitor.specs.declared.monitor.Condition.{Condition}
use Rattle.lang_monitor.specs.Conditions.{HasCondition, IsDescribed, HasFirstBlock}
use Rattle.lang_monitor.specs.Statements.{every_part}
use Rattle.lang_monitor.specs.declared.start.Origin.{Origin}
use Rattle.lang_monitor.specs.declared.start.Origin.TheVariants as origins
use Rattle.lang_monitor.specs.Starts.{IsStart, limit_number, started}

pub record MonitorParts : Type 0 where
  pub name : List ℕ
  pub fields : List Field
  pub methods : List Method
  pub blocks : List Block
  pub conditions : List Condition

-- the monitor of these parts
abbrev pub parts : List ℕ → List Field → List Method → List Block → List Condition → MonitorParts
parts name fields methods blocks conditions = record {
  name = name;
  fields = fields;
  methods = methods;
  blocks = blocks;
  conditions = conditions;
}

-- a value has a kind
abbrev pub IsOfKind : Kind → Value → Type 0
IsOfKind kinds.Int (values.Int number) = Unit {0}
IsOfKind kinds.Bool (values.Bool truth) = Unit {0}
IsOfKind kind value = ⊥

-- one value for each kind, in order
abbrev pub AreOfKinds : List Kind → List Value → Type 0
AreOfKinds [] [] = Unit {0}
AreOfKinds (kind ∷ more_kinds) (value ∷ more_values) =
    IsOfKind kind value × AreOfKinds more_kinds more_values
AreOfKinds some_kinds some_values = ⊥

-- ---- places: field `k` has place `k`, input `k` place `FIRST_INPUT + k`, and local `k` place
-- `FIRST_LOCAL + k`

-- what stands at a place, of what the fields, the inputs and the locals have
abbrev pub at_place : {X : Type 0} → List X → List X → List X → ℕ → Option X
at_place fields inputs locals place =
    if nat_lt place FIRST_INPUT then slice_get fields place
    else if nat_lt place FIRST_LOCAL then slice_get inputs (place - FIRST_INPUT)
    else slice_get locals (place - FIRST_LOCAL)

-- the kinds of a block's fields, inputs and locals
pub record Places : Type 0 where
  pub fields : List Kind
  pub inputs : List Kind
  pub locals : List Kind

abbrev pub kind_at : Places → ℕ → Option Kind
kind_at places place = at_place places.fields places.inputs places.locals place

-- a field or a local, to which a statement may assign
abbrev pub target_at : Places → ℕ → Option Kind
target_at places place = at_place places.fields [] places.locals place

abbrev pub is_kind : Kind → Option Kind → Bool
is_kind kinds.Int (Some kinds.Int) = true
is_kind kinds.Bool (Some kinds.Bool) = true
is_kind wanted kind = false

-- the place of an int, at most `MOST_TIMES` times
abbrev pub fits_term : Places → Term → Bool
fits_term places term =
    is_kind kinds.Int (kind_at places term.place) && is_within MOST_TIMES term.times

abbrev pub fits_form : Places → Linear → Bool
fits_form places form = list_all (fits_term places) form.terms && is_within (2 ^ 64) form.constant

-- ---- formulas, statements and results whose places are of the right kinds

abbrev pub fits_formula_step : Places → Formula-F Bool → Bool
fits_formula_step places (Row form) = fits_form places form
fits_formula_step places (Flag place is) = is_kind kinds.Bool (kind_at places place)
fits_formula_step places (Every parts) = list_all (λ part. part) parts
fits_formula_step places (Some_of parts) = list_all (λ part. part) parts

abbrev pub fits_formula : Places → Formula → Bool
fits_formula places = fold-Formula Bool (fits_formula_step places)

-- an int gets a form, and a bool a formula
abbrev pub fits_put : Places → Put → Bool
fits_put places (Number place form) =
    is_kind kinds.Int (target_at places place) && fits_form places form
fits_put places (Truth place is) =
    is_kind kinds.Bool (target_at places place) && fits_formula places is

abbrev pub fits_statement : Places → Stmt → Bool
fits_statement places = every_part (fits_put places) (fits_formula places)

abbrev pub fits_result : Places → Ret → Bool
fits_result places rets.Nothing = true
fits_result places (rets.Int form) = fits_form places form
fits_result places (rets.Bool formula) = fits_formula places formula

abbrev pub fits_block : Places → Block → Bool
fits_block places block =
    fits_formula places block.guard &&
    (list_all (fits_statement places) block.body && fits_result places block.result)

-- ---- the rule of a monitor

abbrev pub kinds_of : List Field → List Kind
kinds_of fields = map (λ field. field.kind) fields

-- the kinds of a method's inputs
abbrev pub kinds_in : Option Method → List Kind
kinds_in None = []
kinds_in (Some method) = method.inputs

-- the kind of a value
abbrev pub kind_of : Value → Kind
kind_of (values.Int number) = kinds.Int
kind_of (values.Bool truth) = kinds.Bool

-- the values of a method's locals at the start of a call
abbrev pub locals_in : Option Method → List Value
locals_in None = []
locals_in (Some method) = method.locals

-- whether a method asserts
abbrev pub asserts_in : Option Method → Bool
asserts_in None = false
asserts_in (Some method) = method.asserts

-- the number of a method's first block, and how many it has
abbrev pub first_in : Option Method → ℕ
first_in None = 0
first_in (Some method) = method.first

abbrev pub count_in : Option Method → ℕ
count_in None = 0
count_in (Some method) = method.count

-- the value of each field at the start
abbrev pub start_of : MonitorParts → List Value
start_of monitor = map (λ field. field.start) monitor.fields

-- the kinds of the fields, and of the inputs and locals of a method
abbrev pub method_places : MonitorParts → ℕ → Places
method_places monitor method = record {
  fields = kinds_of monitor.fields;
  inputs = kinds_in (slice_get monitor.methods method);
  locals = map kind_of (locals_in (slice_get monitor.methods method));
}

-- the block is one of this method, at this place among its blocks; only the last one answers a
-- result, and it has no condition exactly where the method asserts
pub record IsBlockOf (monitor : MonitorParts) (number place : ℕ) (method : Method) (block : Block) :
    Type 0 where
  pub of : block.method ≡ number
  pub fits : fits_block (method_places monitor number) block ≡ true
  pub answers : place + 1 < method.count → block.result ≡ rets.Nothing
  pub waits : (block.condition ≡ 0) ↔ (method.asserts ≡ true)

-- a method has at most 6 inputs and 4 locals, and one to four blocks; one that asserts has one
pub record IsMethod (monitor : MonitorParts) (number : ℕ) (method : Method) : Type 0 where
  pub few_inputs : length method.inputs ≤ INPUTS
  pub few_locals : length method.locals ≤ LOCALS
  pub some : 1 ≤ method.count
  pub few : method.count ≤ METHOD_BLOCKS
  pub alone : method.asserts ≡ true → method.count ≡ 1
  pub blocks : (place : ℕ) → place < method.count
      → IsSomeAnd (slice_get monitor.blocks (method.first + place))
      (λ block. IsBlockOf monitor number place method block)

-- the blocks of the methods follow one another, the first of them with this number
abbrev pub AreInTurn : ℕ → List Method → List Block → Type 0
AreInTurn number [] blocks = number ≡ length blocks
AreInTurn number (method ∷ methods) blocks =
    (method.first ≡ number) × AreInTurn (number + method.count) methods blocks

-- the block is of the method that it names
abbrev pub IsOwned : List Method → ℕ → Block → Type 0
IsOwned methods number block =
    IsSomeAnd (slice_get methods block.method)
    (λ method. (method.first ≤ number) × (number < method.first + method.count))

-- the names that fields and methods have
abbrev pub names_of : MonitorParts → List (List ℕ)
names_of monitor =
    map (λ field. field.name) monitor.fields ++ map (λ method. method.name) monitor.methods

-- the origin is a number that is chosen
abbrev pub IsChosen : Origin → Type 0
IsChosen origins.Own = ⊥
IsChosen (origins.Chosen limit) = Unit {0}
IsChosen (origins.Copied parameter) = ⊥

-- what is chosen or copied is an int, the magnitude of a limit's number is at most 2^64, and what
-- is copied is a parameter's
abbrev pub HasOrigin : List Field → Kind → Origin → Type 0
HasOrigin fields kind origins.Own = Unit {0}
HasOrigin fields kind (origins.Chosen limit) =
    (kind ≡ kinds.Int) × (is_within (2 ^ 64) (limit_number limit) ≡ true)
HasOrigin fields kind (origins.Copied parameter) =
    (kind ≡ kinds.Int)
    × IsSomeAnd (slice_get fields parameter) (λ source. IsChosen source.origin)

-- the monitor as it is opened with these values
abbrev pub opened_with : MonitorParts → List Value → MonitorParts
opened_with monitor start =
    parts monitor.name (started monitor.fields start) monitor.methods monitor.blocks
    monitor.conditions

pub record IsMonitor (monitor : MonitorParts) : Type 0 where
  pub few_fields : length monitor.fields ≤ FIELDS
  pub few_methods : length monitor.methods ≤ METHODS
  pub few_blocks : length monitor.blocks ≤ BLOCKS
  pub few_conditions : length monitor.conditions ≤ CONDITIONS
  pub name : IsIdentifier monitor.name
  pub names : All IsIdentifier (names_of monitor)
  pub distinct : AllPairs (λ name other. name ≢ other) (names_of monitor)
  pub starts : All (λ field. IsOfKind field.kind field.start) monitor.fields
  pub origins : All (λ field. HasOrigin monitor.fields field.kind field.origin) monitor.fields
  pub opens : IsStart monitor.fields (start_of monitor)
  pub methods : (number : ℕ) (method : Method)
      → slice_get monitor.methods number ≡ Some method → IsMethod monitor number method
  pub in_turn : AreInTurn 0 monitor.methods monitor.blocks
  pub owned : (number : ℕ) (block : Block)
      → slice_get monitor.blocks number ≡ Some block → IsOwned monitor.methods number block
  pub conditions : All (HasCondition monitor.conditions) monitor.blocks
  pub described : All IsDescribed monitor.conditions
  pub different : AllPairs (λ condition other. condition.guard ≢ other.guard) monitor.conditions
  pub in_order : (number : ℕ) → 1 ≤ number → number ≤ length monitor.conditions
      → HasFirstBlock monitor.blocks number
