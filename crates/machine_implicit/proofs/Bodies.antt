-- A body that fits keeps the kinds of the values of fields and locals.
use Rattle.std.proofs.Common.{◌≡◌, ℕ, ◌-◌, cond, ltb, Bool, true, false, ◌&&◌, List, [], map, set, refl, sym, ap, subst, ◌∙◌}
use Rattle.std.specs.List.{list_all, slice_get}
use Rattle.logic_linear.specs.declared.substitution.Put.{Put}
use Rattle.logic_linear.specs.declared.substitution.Put.TheVariants.{Number, Truth}
use Rattle.logic_linear.specs.Truth.{truth_of}
use Rattle.lang_base.specs.declared.kind.Kind.{Kind}
use Rattle.lang_base.specs.declared.kind.Kind.TheVariants as kinds
use Rattle.lang_base.specs.declared.value.Value.{Value}
use Rattle.lang_monitor.specs.declared.monitor.Block.{Block}
use Rattle.lang_monitor.specs.MonitorParts.{Places, kind_of, is_kind, target_at, fits_form, fits_formula, fits_put, fits_statement, fits_result, fits_block}
use Rattle.lang_monitor.specs.Bodies.{Inputs, Memory, after, assigning, form_value, formula_value, memory_of, on_memory, reading, with_value}
use Rattle.lang_monitor.proofs.Statements.{Agree, simulated}
use Rattle.machine_implicit.proofs.Sums.{both_true}
use Rattle.machine_implicit.proofs.Held.{kinds_set}

-- the values are of the kinds of these fields and locals
pub record HasKinds (places : Places) (memory : Memory) : Type 0 where
  pub state : map kind_of memory.state ≡ places.fields
  pub locals : map kind_of memory.locals ≡ places.locals

-- a field or a local gets a value of its kind
set_by : (kind : Kind) (places : Places) (place : ℕ) (value : Value) (memory : Memory) (low middle : Bool) → kind_of value ≡ kind
    → is_kind kind (cond low (slice_get places.fields place) (cond middle (slice_get [] (place - 16)) (slice_get places.locals (place - 22)))) ≡ true
    → HasKinds places memory
    → HasKinds places (cond low (record { state = set memory.state place value; locals = memory.locals }) (record { state = memory.state; locals = set memory.locals (place - 22) value }))
set_by kind places place value memory true middle is fits has =
    record { state = kinds_set kind memory.state place value is (subst (λ (some : List Kind). is_kind kind (slice_get some place) ≡ true) (sym has.state) fits) ∙ has.state; locals = has.locals }
set_by kinds.Int places place value memory false true is fits has = absurd (cc)
set_by kinds.Bool places place value memory false true is fits has = absurd (cc)
set_by kind places place value memory false false is fits has =
    record { state = has.state; locals = kinds_set kind memory.locals (place - 22) value is (subst (λ (some : List Kind). is_kind kind (slice_get some (place - 22)) ≡ true) (sym has.locals) fits) ∙ has.locals }

set_keeps : (kind : Kind) (places : Places) (place : ℕ) (value : Value) (memory : Memory) → kind_of value ≡ kind → is_kind kind (target_at places place) ≡ true
    → HasKinds places memory → HasKinds places (with_value memory place value)
set_keeps kind places place value memory is fits has = set_by kind places place value memory (ltb place 16) (ltb place 22) is fits has

put_keeps : (places : Places) (arguments : List Value) (put : Put) (memory : Memory) → fits_put places put ≡ true → HasKinds places memory → HasKinds places ((assigning arguments put).next memory)
put_keeps places arguments (Number place form) memory fits has =
    set_keeps kinds.Int places place (form_value arguments form memory) memory refl (both_true (is_kind kinds.Int (target_at places place)) (fits_form places form) fits).0 has
put_keeps places arguments (Truth place is) memory fits has =
    set_keeps kinds.Bool places place (formula_value arguments is memory) memory refl (both_true (is_kind kinds.Bool (target_at places place)) (fits_formula places is) fits).0 has

abbrev IsOne : Places → Memory → Memory → Type 0
IsOne places memory mirror = HasKinds places memory × (memory ≡ mirror)

kinds_stay : (places : Places) (arguments : List Value) → Agree Memory Memory (IsOne places) (on_memory arguments) (on_memory arguments) (fits_put places) (fits_formula places)
kinds_stay places arguments = record {
  does = λ put fits memory mirror are.
      let effect = assigning arguments put in
      record { reaches = (put_keeps places arguments put memory fits are.0, ap effect.next are.1); overflows = ap effect.overflows are.1 };
  holds = λ when fits memory mirror are. ap (λ (one : Memory). truth_of (reading arguments one) when) are.1;
}

-- after a body that fits the fields and locals have values of their kinds
pub after_keeps_kinds : (places : Places) (inputs : Inputs) (state : List Value) (block : Block) → fits_block places block ≡ true
    → HasKinds places (memory_of state inputs) → HasKinds places (after inputs block.body state)
after_keeps_kinds places inputs state block fits has =
    let rest = both_true (fits_formula places block.guard) (list_all (fits_statement places) block.body && fits_result places block.result) fits in
    let both = both_true (list_all (fits_statement places) block.body) (fits_result places block.result) rest.1 in
    let start = memory_of state inputs in
    (simulated Memory Memory (IsOne places) (on_memory inputs.arguments) (on_memory inputs.arguments) (fits_put places) (fits_formula places) (kinds_stay places inputs.arguments) block.body both.0 start start (has, refl)).reaches.0
