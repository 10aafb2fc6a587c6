-- What the rule says of a statement and what the statement does, by its form.
use Rattle.std.proofs.Common.{◌≡◌, ℕ, Bool, true, false, cond, List, Result, Ok, Err, OnErr, refl, sym, subst, ap, ◌∙◌}
use Rattle.logic_linear.specs.Linear.{Linear}
use Rattle.logic_linear.specs.declared.formula.Formula.{Formula}
use Rattle.logic_linear.specs.declared.substitution.Put.{Put}
use Rattle.logic_linear.specs.declared.substitution.Put.TheVariants as puts
use Rattle.logic_linear.specs.Truth.{truth_of}
use Rattle.lang_base.specs.declared.kind.Kind.TheVariants as kinds
use Rattle.lang_base.specs.declared.value.Value.{Value}
use Rattle.lang_base.specs.declared.value.Value.TheVariants as values
use Rattle.lang_monitor.specs.declared.monitor.Stmt.{Stmt}
use Rattle.lang_monitor.specs.declared.monitor.Stmt.TheVariants as statements
use Rattle.lang_monitor.specs.MonitorParts.{Places, is_kind, target_at, fits_form, fits_formula, fits_put, fits_statement}
use Rattle.lang_monitor.specs.Bodies.{Memory, assigning, body_effect, effect_of, on_memory, reading, with_value}
use Rattle.lang_monitor.specs.Statements.{Effect, choosing}
use Rattle.lang_monitor.proofs.Statements.{if_effect, put_effect, put_part}
use Rattle.machine_implicit.specs.inner.Held.{RunsWhole}
use Rattle.machine_implicit.proofs.Sums.{both_true}

-- ---- assignments

pub put_fits : (places : Places) (statement : Stmt) (put : Put) → statement ≡ statements.Put put → fits_statement places statement ≡ true → fits_put places put ≡ true
put_fits places statement put is fits = sym (ap (fits_statement places) is ∙ put_part (fits_put places) (fits_formula places) put) ∙ fits

-- a number is assigned to an int
pub number_target : (places : Places) (put : Put) (place : ℕ) (form : Linear) → put ≡ puts.Number place form → fits_put places put ≡ true → is_kind kinds.Int (target_at places place) ≡ true
number_target places put place form is fits = (both_true (is_kind kinds.Int (target_at places place)) (fits_form places form) (sym (ap (fits_put places) is) ∙ fits)).0

-- a truth value is assigned to a bool
pub truth_target : (places : Places) (put : Put) (place : ℕ) (formula : Formula) → put ≡ puts.Truth place formula → fits_put places put ≡ true → is_kind kinds.Bool (target_at places place) ≡ true
truth_target places put place formula is fits = (both_true (is_kind kinds.Bool (target_at places place)) (fits_formula places formula) (sym (ap (fits_put places) is) ∙ fits)).0

pub truth_runs : (inputs : List Value) (state next : Memory) (put : Put) (place : ℕ) (formula : Formula) (truth : Bool) → put ≡ puts.Truth place formula
    → truth ≡ truth_of (reading inputs state) formula → next ≡ with_value state place (values.Bool truth)
    → RunsWhole (assigning inputs put) state next
truth_runs inputs state next put place formula truth is worth reaches =
    subst (λ (one : Put). RunsWhole (assigning inputs one) state next) (sym is)
    (record { fits = refl; reaches = reaches ∙ ap (λ (some : Bool). with_value state place (values.Bool some)) worth })

pub put_is : (inputs : List Value) (statement : Stmt) (put : Put) → statement ≡ statements.Put put → assigning inputs put ≡ effect_of inputs statement
put_is inputs statement put is = sym (ap (effect_of inputs) is ∙ put_effect (on_memory inputs) put)

-- ---- branches

if_is : (inputs : List Value) (statement : Stmt) (when : Formula) (body other : List Stmt) → statement ≡ statements.If when body other
    → choosing (λ state. truth_of (reading inputs state) when) (body_effect inputs body) (body_effect inputs other) ≡ effect_of inputs statement
if_is inputs statement when body other is = sym (ap (effect_of inputs) is ∙ if_effect (on_memory inputs) when body other)

chosen_runs : (inputs : List Value) (state next : Memory) (when : Formula) (body other taken : Effect Memory) (test : Bool) → truth_of (reading inputs state) when ≡ test
    → cond test (body.overflows state) (other.overflows state) ≡ taken.overflows state → cond test (body.next state) (other.next state) ≡ taken.next state
    → RunsWhole taken state next → RunsWhole (choosing (λ one. truth_of (reading inputs one) when) body other) state next
chosen_runs inputs state next when body other taken test holds over goes runs = record {
  fits = ap (λ (some : Bool). cond some (body.overflows state) (other.overflows state)) holds ∙ over ∙ runs.fits;
  reaches = runs.reaches ∙ sym (ap (λ (some : Bool). cond some (body.next state) (other.next state)) holds ∙ goes);
}

pub branch_runs : (inputs : List Value) (state next : Memory) (statement : Stmt) (when : Formula) (body other : List Stmt) → statement ≡ statements.If when body other
    → truth_of (reading inputs state) when ≡ true → RunsWhole (body_effect inputs body) state next → RunsWhole (effect_of inputs statement) state next
branch_runs inputs state next statement when body other is holds runs =
    subst (λ (effect : Effect Memory). RunsWhole effect state next) (if_is inputs statement when body other is)
    (chosen_runs inputs state next when (body_effect inputs body) (body_effect inputs other) (body_effect inputs body) true holds refl refl runs)

pub other_runs : (inputs : List Value) (state next : Memory) (statement : Stmt) (when : Formula) (body other : List Stmt) → statement ≡ statements.If when body other
    → truth_of (reading inputs state) when ≡ false → RunsWhole (body_effect inputs other) state next → RunsWhole (effect_of inputs statement) state next
other_runs inputs state next statement when body other is holds runs =
    subst (λ (effect : Effect Memory). RunsWhole effect state next) (if_is inputs statement when body other is)
    (chosen_runs inputs state next when (body_effect inputs body) (body_effect inputs other) (body_effect inputs other) false holds refl refl runs)

-- ---- results

pub on_any_err : {T E : Type 0} (P : Type 0) (result : Result T E) → P → OnErr result P
on_any_err P (Ok value) held = tt
on_any_err P (Err error) held = held
