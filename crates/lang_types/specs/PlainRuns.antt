-- What the statements of a tree do, by ordinary arithmetic and logic, where each name has a value.
use Rattle.std.specs.Prelude.{◌≡◌, ℕ, ℤ, pos, false, List, [], ◌∷◌, ◌++◌, map, Option, Some, None}
use Rattle.std.specs.Prelude.{slice_get, if◌then◌else◌}
use Rattle.std.specs.Option.{option_map}
use Rattle.std.specs.Str.{bytes_eq}
use Rattle.lang_tree.specs.declared.tree.Decl.{Decl}
use Rattle.lang_tree.specs.declared.tree.Decl.TheVariants as decls
use Rattle.lang_tree.specs.declared.tree.Expr.{Expr}
use Rattle.lang_tree.specs.declared.tree.Expr.TheOpen.{Expr-F, Named}
use Rattle.lang_tree.specs.declared.tree.Expr.TheFolds.{fold-Expr}
use Rattle.lang_tree.specs.declared.tree.InputTree.{InputTree}
use Rattle.lang_tree.specs.declared.tree.StmtTree.{StmtTree}
use Rattle.lang_tree.specs.declared.tree.StmtTree.TheOpen.{StmtTree-F, Set, If, Return}
use Rattle.lang_tree.specs.declared.tree.StmtTree.TheFolds.{fold-StmtTree}
use Rattle.lang_tree.specs.declared.tree.MethodTree.{MethodTree}
use Rattle.lang_tree.specs.declared.tree.MonitorTree.{MonitorTree}
use Rattle.logic_linear.specs.Truth.{Valuation}
use Rattle.lang_base.specs.declared.kind.Kind.{Kind}
use Rattle.lang_base.specs.declared.value.Value.{Value}
use Rattle.lang_base.specs.declared.value.Value.TheVariants as values
use Rattle.lang_forms.specs.Plain.{Plain, number, truth, truth_in, plain_step, addend_value}
use Rattle.lang_forms.specs.Plain.{factor_value}
use Rattle.lang_monitor.specs.declared.monitor.Block.{Block}
use Rattle.lang_monitor.specs.declared.monitor.Field.{Field}
use Rattle.lang_monitor.specs.MonitorParts.{MonitorParts, AreOfKinds, kinds_of}
use Rattle.lang_monitor.specs.Bodies.{Inputs, after, block_result}
use Rattle.lang_types.specs.Typed.{PlacedBlock, blocks_from, literal_value, locals_of}

-- ---- what names stand for

-- the number or the truth value that each name stands for
abbrev pub Environment : Type 0
Environment = List ℕ → Plain

pub record NamedValue : Type 0 where
  pub name : List ℕ
  pub value : Plain

-- what the first of that name is; an unknown name, which no checked statement has, is 0
abbrev pub environment_of : List NamedValue → Environment
environment_of [] name = number (pos 0)
environment_of (first ∷ more) name =
    if bytes_eq first.name name then first.value else environment_of more name

-- the value of a field, an input or a result
abbrev pub plain_of : Value → Plain
plain_of (values.Int value) = number value
plain_of (values.Bool value) = truth value

-- a constant is its written number, and parameters and fields, or the locals, have these values, in
-- the order of the file
abbrev pub declared_values : List Decl → List Value → List NamedValue
declared_values (decls.Const at name value ∷ more) state =
    record { name = name; value = number (literal_value value) } ∷ declared_values more state
declared_values (decls.Param at name value limit ∷ more) (first ∷ rest) =
    record { name = name; value = plain_of first } ∷ declared_values more rest
declared_values (decls.Int at name value ∷ more) (first ∷ rest) =
    record { name = name; value = plain_of first } ∷ declared_values more rest
declared_values (decls.Copied at name source ∷ more) (first ∷ rest) =
    record { name = name; value = plain_of first } ∷ declared_values more rest
declared_values (decls.Flag at name value ∷ more) (first ∷ rest) =
    record { name = name; value = plain_of first } ∷ declared_values more rest
declared_values declared state = []

abbrev pub input_values : List InputTree → List Value → List NamedValue
input_values (input ∷ more) (first ∷ rest) =
    record { name = input.name; value = plain_of first } ∷ input_values more rest
input_values taken inputs = []

-- what the names of a method stand for when one of its blocks begins
abbrev pub method_environment : List Decl → MethodTree → List Value → Inputs → Environment
method_environment declared method state inputs =
    environment_of (declared_values declared state
    ++ (input_values method.inputs inputs.arguments
    ++ declared_values method.locals inputs.locals))

-- ---- expressions

-- no name has a place here
abbrev pub no_places : Valuation
no_places = record { number = λ place. pos 0; flag = λ place. false }

-- One layer, given what its parts mean. Only a name asks what names stand for; the others are
-- arithmetic and logic alone.
abbrev pub value_step : Environment → Expr-F Plain ℤ ℤ → Plain
value_step names (Named at name) = names name
value_step names layer = plain_step [] no_places layer

abbrev pub expression_value : Environment → Expr → Plain
expression_value names = fold-Expr Plain ℤ ℤ (value_step names) addend_value factor_value

-- ---- statements

-- what the names stand for, and what was returned, where something was
pub record PlainState : Type 0 where
  pub names : Environment
  pub returned : Option Plain

-- an assignment changes what its target stands for, and nothing else
abbrev pub reassigned : List ℕ → Plain → Environment → Environment
reassigned target value names name = if bytes_eq target name then value else names name

-- one after the other
abbrev pub one_by_one : List (PlainState → PlainState) → PlainState → PlainState
one_by_one [] before = before
one_by_one (first ∷ more) before = one_by_one more (first before)

-- The condition of an `if` is read once, before one of its branches runs. A `return` goes on, but a
-- checked body ends with it.
abbrev pub run_step : StmtTree-F (PlainState → PlainState) → PlainState → PlainState
run_step (Set at name value) before = record {
  names = reassigned name (expression_value before.names value) before.names;
  returned = before.returned;
}
run_step (If at when body other) before =
    if truth_in (expression_value before.names when) then one_by_one body before
    else one_by_one other before
run_step (Return at value) before = record {
  names = before.names;
  returned = Some (expression_value before.names value);
}

abbrev pub statement_run : StmtTree → PlainState → PlainState
statement_run = fold-StmtTree (PlainState → PlainState) run_step

-- what the statements of a body do to what the names stand for, and what they return
abbrev pub plain_run : List StmtTree → Environment → PlainState
plain_run body names =
    one_by_one (map statement_run body) (record { names = names; returned = None })

-- ---- a block and the statements of its tree

-- what these fields, or locals, stand for
abbrev pub named_values : PlainState → List Field → List Plain
named_values end fields = map (λ field. end.names field.name) fields

-- From a state and inputs the block's body reaches the state and the locals that a plain run ends
-- in, read by the names of the fields and of the method's locals, and the block's result is what
-- that run returned.
pub record RunsAsWritten (monitor : MonitorParts) (method : MethodTree) (block : Block)
    (state : List Value) (inputs : Inputs) (end : PlainState) : Type 0 where
  pub reaches : map plain_of (after inputs block.body state).state
      ≡ named_values end monitor.fields
  pub keeps : map plain_of (after inputs block.body state).locals
      ≡ named_values end (locals_of method.locals)
  pub answers : option_map plain_of (block_result inputs block state) ≡ end.returned

abbrev pub kinds_taken : MethodTree → List Kind
kinds_taken method = map (λ input. input.kind) method.inputs

-- the kinds of a method's locals
abbrev pub kinds_kept : MethodTree → List Kind
kinds_kept method = kinds_of (locals_of method.locals)

-- what the statements of a block do to a state and locals
abbrev pub block_run : List Decl → PlacedBlock → List Value → Inputs → PlainState
block_run declared placed state inputs =
    plain_run placed.block.body (method_environment declared placed.method state inputs)

-- from each state, with all inputs and locals of the method's kinds
abbrev pub BlockRunsAsWritten : MonitorTree → MonitorParts → PlacedBlock → Block → Type 0
BlockRunsAsWritten tree monitor placed block =
    (state : List Value) (inputs : Inputs)
    → AreOfKinds (kinds_of monitor.fields) state
    → AreOfKinds (kinds_taken placed.method) inputs.arguments
    → AreOfKinds (kinds_kept placed.method) inputs.locals
    → RunsAsWritten monitor placed.method block state inputs
    (block_run tree.decls placed state inputs)

-- from each state, inputs and locals that fit, each block ends as a plain run of its statements
abbrev pub MonitorRunsAsWritten : MonitorTree → MonitorParts → Type 0
MonitorRunsAsWritten tree monitor =
    (index : ℕ) (placed : PlacedBlock) (block : Block)
    → slice_get (blocks_from 0 tree.methods) index ≡ Some placed
    → slice_get monitor.blocks index ≡ Some block
    → BlockRunsAsWritten tree monitor placed block
