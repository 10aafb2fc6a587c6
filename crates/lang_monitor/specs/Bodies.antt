-- What a body does, over whole numbers without bounds, when it overflows, and which triples are
-- valid.
use Rattle.std.specs.Prelude.{◌≡◌, ℕ, ◌+◌, ◌-◌, ℤ, pos, Bool, true}
use Rattle.std.specs.Prelude.{false, not, ◌||◌, nat_lt, List, [], ◌∷◌, Option, Some, None}
use Rattle.std.specs.Prelude.{unwrap_or, slice_set, if◌then◌else◌}
use Rattle.logic_linear.specs.Linear.{Linear}
use Rattle.logic_linear.specs.declared.formula.Formula.{Formula}
use Rattle.logic_linear.specs.declared.substitution.Put.{Put}
use Rattle.logic_linear.specs.declared.substitution.Put.TheVariants.{Number, Truth}
use Rattle.logic_linear.specs.Truth.{Valuation, value_of, truth_of}
use Rattle.lang_base.specs.Limits.{FIRST_INPUT, FIRST_LOCAL}
use Rattle.lang_base.specs.declared.kind.Kind.{Kind}
use Rattle.lang_base.specs.declared.kind.Kind.TheVariants as kinds
use Rattle.lang_monitor.specs.MonitorParts.{Places, at_place}
pub use Rattle.lang_monitor.specs.Starts.{fits_64}
use Rattle.lang_base.specs.declared.value.Value.{Value}
use Rattle.lang_base.specs.declared.value.Value.TheVariants as values
use Rattle.lang_monitor.specs.declared.monitor.Stmt.{Stmt}
use Rattle.lang_monitor.specs.declared.monitor.Ret.{Ret}
use Rattle.lang_monitor.specs.declared.monitor.Ret.TheVariants as rets
use Rattle.lang_monitor.specs.declared.monitor.Block.{Block}
use Rattle.lang_monitor.specs.Statements.{Effect, Runner, run_of, run_body}

-- ---- what places stand for

abbrev pub number_of_value : Value → ℤ
number_of_value (values.Int number) = number
number_of_value (values.Bool truth) = pos 0

abbrev pub truth_of_value : Value → Bool
truth_of_value (values.Int number) = false
truth_of_value (values.Bool truth) = truth

-- the inputs of a call: its arguments and its locals
pub record Inputs : Type 0 where
  pub arguments : List Value
  pub locals : List Value

-- with no argument and no local
abbrev pub no_inputs : Inputs
no_inputs = record { arguments = []; locals = [] }

-- the value at a place
abbrev pub value_at : List Value → Inputs → ℕ → Value
value_at state inputs place =
    unwrap_or (at_place state inputs.arguments inputs.locals place) (values.Int (pos 0))

abbrev pub valuation : List Value → Inputs → Valuation
valuation state inputs =
    record {
      number = λ place. number_of_value (value_at state inputs place);
      flag = λ place. truth_of_value (value_at state inputs place);
    }

-- ---- bodies

-- what statements change: the state and the locals
pub record Memory : Type 0 where
  pub state : List Value
  pub locals : List Value

-- the value of a field or a local, by its place
abbrev pub held_at : Memory → ℕ → Option Value
held_at memory place = at_place memory.state [] memory.locals place

-- with this value at the place of a field or a local
abbrev pub with_value : Memory → ℕ → Value → Memory
with_value memory place value =
    if nat_lt place FIRST_INPUT
    then record { state = slice_set memory.state place value; locals = memory.locals }
    else record {
      state = memory.state;
      locals = slice_set memory.locals (place - FIRST_LOCAL) value;
    }

-- what forms and formulas read at these arguments
abbrev pub reading : List Value → Memory → Valuation
reading arguments memory =
    valuation memory.state (record { arguments = arguments; locals = memory.locals })

abbrev pub form_value : List Value → Linear → Memory → Value
form_value arguments form memory = values.Int (value_of (reading arguments memory) form)

abbrev pub formula_value : List Value → Formula → Memory → Value
formula_value arguments formula memory = values.Bool (truth_of (reading arguments memory) formula)

-- the place of the field or the local that is assigned
abbrev pub target_of : Put → ℕ
target_of (Number place form) = place
target_of (Truth place is) = place

-- the value that is assigned, made of what is read before
abbrev pub value_of_put : List Value → Put → Memory → Value
value_of_put arguments (Number place form) memory = form_value arguments form memory
value_of_put arguments (Truth place is) memory = formula_value arguments is memory

-- an assignment to a field or a local; it overflows where its value is outside 64 bits
abbrev pub assigning : List Value → Put → Effect Memory
assigning arguments put = record {
  next = λ memory. with_value memory (target_of put) (value_of_put arguments put memory);
  overflows = λ memory. not (fits_64 (value_of_put arguments put memory));
}

-- a run over the state and the locals, at these arguments
abbrev pub on_memory : List Value → Runner Memory
on_memory arguments = record {
  does = assigning arguments;
  holds = λ formula memory. truth_of (reading arguments memory) formula;
}

abbrev pub effect_of : List Value → Stmt → Effect Memory
effect_of arguments = run_of (on_memory arguments)

abbrev pub body_effect : List Value → List Stmt → Effect Memory
body_effect arguments = run_body (on_memory arguments)

-- where a block begins
abbrev pub memory_of : List Value → Inputs → Memory
memory_of state inputs = record { state = state; locals = inputs.locals }

-- the state and the locals that the statements reach one after the other; the arguments stay
abbrev pub after : Inputs → List Stmt → List Value → Memory
after inputs body state = (body_effect inputs.arguments body).next (memory_of state inputs)

-- the value of a result, where there is one
abbrev pub result_value : Memory → List Value → Ret → Option Value
result_value memory arguments rets.Nothing = None
result_value memory arguments (rets.Int form) = Some (form_value arguments form memory)
result_value memory arguments (rets.Bool formula) = Some (formula_value arguments formula memory)

-- the value of a block's result, after its body
abbrev pub block_result : Inputs → Block → List Value → Option Value
block_result inputs block state =
    result_value (after inputs block.body state) inputs.arguments block.result

abbrev pub fits_result_64 : Option Value → Bool
fits_result_64 None = true
fits_result_64 (Some value) = fits_64 value

-- some value that is assigned on the way, to a field or a local, or the result at the end, is
-- outside 64 bits
abbrev pub overflows_in : Inputs → Block → List Value → Bool
overflows_in inputs block state =
    (body_effect inputs.arguments block.body).overflows (memory_of state inputs)
    || not (fits_result_64 (block_result inputs block state))

abbrev pub Overflows : Inputs → Block → List Value → Type 0
Overflows inputs block state = overflows_in inputs block state ≡ true

-- ---- valid triples

-- the values of a valuation at the places from one on, of these kinds
abbrev pub values_from : Valuation → ℕ → List Kind → List Value
values_from v place [] = []
values_from v place (kinds.Int ∷ more) =
    values.Int (v.number place) ∷ values_from v (place + 1) more
values_from v place (kinds.Bool ∷ more) =
    values.Bool (v.flag place) ∷ values_from v (place + 1) more

-- the number of a value, or the truth of one, where it has such; else the one that was there
abbrev pub number_or : ℤ → Option Value → ℤ
number_or kept (Some (values.Int number)) = number
number_or kept value = kept

abbrev pub truth_or : Bool → Option Value → Bool
truth_or kept (Some (values.Bool truth)) = truth
truth_or kept value = kept

-- the valuation with the values of the fields and locals replaced: a number or a truth, by its kind
abbrev pub with_memory : Valuation → Memory → Valuation
with_memory v memory = record {
  number = λ place. number_or (v.number place) (held_at memory place);
  flag = λ place. truth_or (v.flag place) (held_at memory place);
}

-- the arguments and the locals of a valuation
abbrev pub inputs_from : Valuation → Places → Inputs
inputs_from v places = record {
  arguments = values_from v FIRST_INPUT places.inputs;
  locals = values_from v FIRST_LOCAL places.locals;
}

-- the valuation after a body, run without regard to 64 bits: the fields and locals have the values
-- that the body reaches
abbrev pub valuation_after : Places → List Stmt → Valuation → Valuation
valuation_after places body v =
    with_memory v (after (inputs_from v places) body (values_from v 0 places.fields))

-- wherever the one formula is true, the other is after the body
abbrev pub IsValid : Places → Formula → List Stmt → Formula → Type 0
IsValid places before body then_after =
    (v : Valuation) → truth_of v before ≡ true
    → truth_of (valuation_after places body v) then_after ≡ true
