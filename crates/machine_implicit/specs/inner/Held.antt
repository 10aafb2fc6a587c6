-- The kinds of the values that are held, and what forms, formulas and statements make of them.
use Rattle.std.specs.Prelude.{◌≡◌, ◌≤◌, ◌<◌, ◌-◌, ◌*ℤ◌, ℕ, ℤ, Bool, true, false, List, length, map}
use Rattle.std.specs.List.{list_all, list_any}
use Rattle.logic_linear.specs.declared.form.Term.{Term}
use Rattle.logic_linear.specs.declared.formula.Formula.{Formula}
use Rattle.logic_linear.specs.Linear.{Linear}
use Rattle.logic_linear.specs.Truth.{Valuation, truth_of, value_of}
use Rattle.lang_base.specs.Limits.{FIELDS, INPUTS, LOCALS, FIRST_INPUT, FIRST_LOCAL}
use Rattle.lang_base.specs.declared.value.Value.{Value}
use Rattle.lang_base.specs.declared.value.Value.TheVariants as values
use Rattle.lang_monitor.specs.declared.monitor.Stmt.{Stmt}
use Rattle.lang_monitor.specs.declared.monitor.Ret.{Ret}
use Rattle.lang_monitor.specs.declared.monitor.Block.{Block}
use Rattle.lang_monitor.specs.MonitorParts.{MonitorParts, Places, kind_of, fits_block, fits_formula}
use Rattle.lang_monitor.specs.MonitorParts.{fits_statement, method_places}
use Rattle.lang_monitor.specs.Bodies.{Inputs, Memory, fits_64, fits_result_64}
use Rattle.lang_monitor.specs.Bodies.{number_of_value, result_value, valuation, value_at}
use Rattle.lang_monitor.specs.Statements.{Effect}
use Rattle.machine_implicit.specs.declared.commit.Reply.{Reply}
use Rattle.machine_implicit.specs.Steps.{reply_of}
pub use Rattle.machine_implicit.specs.Steps.{given, held, SameKinds}

-- the kinds of the values of a state, of arguments and of locals
abbrev pub held_places : List Value → Inputs → Places
held_places state inputs = record {
  fields = map kind_of state;
  inputs = map kind_of inputs.arguments;
  locals = map kind_of inputs.locals;
}

-- a field or a local has this place
pub record HasTarget (memory : Memory) (place : ℕ) : Type 0 where
  pub field : place < FIRST_INPUT → place < length memory.state
  pub local : FIRST_INPUT ≤ place
      → (FIRST_LOCAL ≤ place) × (place - FIRST_LOCAL < length memory.locals)

-- as few values as a monitor has fields, and a method inputs and locals
pub record AreFew (state : List Value) (inputs : Inputs) : Type 0 where
  pub few_fields : length state ≤ FIELDS
  pub few_inputs : length inputs.arguments ≤ INPUTS
  pub few_locals : length inputs.locals ≤ LOCALS

-- a block's places are of the right kinds where it is of the method of this number
abbrev pub fits_method : MonitorParts → ℕ → Block → Bool
fits_method monitor number block = fits_block (method_places monitor number) block

-- ---- forms and formulas

abbrev pub term_value : List Value → Inputs → Term → ℤ
term_value state inputs term = term.times *ℤ number_of_value (value_at state inputs term.place)

abbrev pub form_worth : List Value → Inputs → Linear → ℤ
form_worth state inputs form = value_of (valuation state inputs) form

-- the value is within 64 bits
abbrev pub is_short_worth : List Value → Inputs → Linear → Bool
is_short_worth state inputs form = fits_64 (values.Int (form_worth state inputs form))

abbrev pub all_fit : Places → List Formula → Bool
all_fit places parts = list_all (λ part. part) (map (fits_formula places) parts)

abbrev pub all_true : Valuation → List Formula → Bool
all_true v parts = list_all (λ part. part) (map (truth_of v) parts)

abbrev pub any_true : Valuation → List Formula → Bool
any_true v parts = list_any (λ part. part) (map (truth_of v) parts)

-- ---- statements

-- the statements run from a state to the next one, and no value that they assign is outside 64 bits
pub record RunsWhole (effect : Effect Memory) (before next : Memory) : Type 0 where
  pub fits : effect.overflows before ≡ false
  pub reaches : next ≡ effect.next before

abbrev pub Leaves64 : Effect Memory → Memory → Type 0
Leaves64 effect before = effect.overflows before ≡ true

abbrev pub all_statements_fit : Places → List Stmt → Bool
all_statements_fit places body = list_all (λ inner. inner) (map (fits_statement places) body)

-- ---- replies

-- a result after a body, as it is replied
abbrev pub reply_in : List Value → Inputs → Ret → Reply
reply_in state inputs result =
    reply_of (result_value (held state inputs.locals) inputs.arguments result)

abbrev pub is_short_in : List Value → Inputs → Ret → Bool
is_short_in state inputs result =
    fits_result_64 (result_value (held state inputs.locals) inputs.arguments result)
