-- A body that does not overflow keeps the fields and locals within 64 bits.
use Rattle.std.proofs.Common.{◌≡◌, ℕ, zero, suc, ◌-◌, Bool, true, false, not, List, [], ◌∷◌, refl, sym, subst, inl, inr}
use Rattle.std.specs.Prelude.{nat_lt, slice_set}
use Rattle.std.proofs.lemmas.Bool.{cond_both, or_parts}
use Rattle.std.proofs.lemmas.List.Elements.{All-cons, All-head, All-tail}
use Rattle.lang_base.specs.declared.value.Value.{Value}
use Rattle.logic_linear.specs.declared.substitution.Put.{Put}
use Rattle.lang_monitor.specs.declared.monitor.Block.{Block}
use Rattle.lang_monitor.specs.declared.monitor.Stmt.{Stmt}
use Rattle.lang_monitor.specs.Bodies.{Inputs, Memory, assigning, block_result, body_effect, fits_64, fits_result_64, memory_of, on_memory, overflows_in, target_of, value_of_put, with_value}
use Rattle.lang_monitor.proofs.Statements.{Keeps, all_pass, kept}
use Rattle.machine_implicit.specs.declared.commit.Reply.{Reply}
use Rattle.machine_implicit.specs.Steps.{BlockSteps}
use Rattle.plan_fits.specs.Fits.{AreIn64}

pub record AreShort (memory : Memory) : Type 0 where
  pub state : AreIn64 memory.state
  pub locals : AreIn64 memory.locals

set_in_64 : (some : List Value) (i : ℕ) (value : Value) → fits_64 value ≡ true → AreIn64 some → AreIn64 (slice_set some i value)
set_in_64 [] i value fits are = are
set_in_64 (first ∷ some) zero value fits are = All-cons (λ (one : Value). fits_64 one ≡ true) value some fits (All-tail (λ (one : Value). fits_64 one ≡ true) first some are)
set_in_64 (first ∷ some) (suc i) value fits are =
    All-cons (λ (one : Value). fits_64 one ≡ true) first (slice_set some i value) (All-head (λ (one : Value). fits_64 one ≡ true) first some are)
    (set_in_64 some i value fits (All-tail (λ (one : Value). fits_64 one ≡ true) first some are))

written : (memory : Memory) (place : ℕ) (value : Value) → fits_64 value ≡ true → AreShort memory → AreShort (with_value memory place value)
written memory place value fits short =
    cond_both (nat_lt place 16) (record { state = slice_set memory.state place value; locals = memory.locals }) (record { state = memory.state; locals = slice_set memory.locals (place - 22) value }) AreShort
    (λ yes. record { state = set_in_64 memory.state place value fits short.state; locals = short.locals })
    (λ no_. record { state = short.state; locals = set_in_64 memory.locals (place - 22) value fits short.locals })

not_not : (a : Bool) → not a ≡ false → a ≡ true
not_not true e = refl
not_not false e = absurd cc

put_keeps : (arguments : List Value) (put : Put) → Keeps Memory AreShort (assigning arguments put)
put_keeps arguments put memory stays short =
    let value = value_of_put arguments put memory in
    written memory (target_of put) value (not_not (fits_64 value) stays) short

body_keeps : (body : List Stmt) (arguments : List Value) → Keeps Memory AreShort (body_effect arguments body)
body_keeps body arguments = kept Memory AreShort (on_memory arguments) (λ put. true) (λ when. true) (λ put fits. put_keeps arguments put) body (all_pass body)

never_true : (a : Bool) → (a ≡ true → ⊥) → a ≡ false
never_true true never = absurd (never refl)
never_true false never = refl

pub step_keeps : (block : Block) (inputs : Inputs) (state : List Value) (reply : Reply) (next : Memory) → BlockSteps block inputs state reply next → AreShort (memory_of state inputs) → AreShort next
step_keeps block inputs state reply next (inl whole) short =
    let none = never_true (overflows_in inputs block state) whole.0 in
    let both = or_parts ((body_effect inputs.arguments block.body).overflows (memory_of state inputs)) (not (fits_result_64 (block_result inputs block state))) none in
    subst AreShort (sym whole.2) (body_keeps block.body inputs.arguments (memory_of state inputs) both.0 short)
step_keeps block inputs state reply next (inr over) short = subst AreShort (sym over.2) short
