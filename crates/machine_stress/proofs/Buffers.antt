-- What the buffer's blocks do, by how much is in it.
use Rattle.std.proofs.Common.{◌≡◌, ℕ, suc, ◌^◌, ◌<◌, Bool, true, false, ◌||◌, not, pos, neg_ℤ, ◌+ℤ◌, ◌*ℤ◌, ◌-ℤ◌, List, [], ◌∷◌, sym, ap, subst, ◌∙◌, arith, inl, inr}
use Rattle.std.specs.Prelude.{int_le}
use Rattle.std.proofs.lemmas.Int.{ints}
use Rattle.lang_base.specs.declared.value.Value.{Value}
use Rattle.lang_base.specs.declared.value.Value.TheVariants as values
use Rattle.logic_linear.specs.Linear.{Linear}
use Rattle.logic_linear.specs.Truth.{Valuation, layer_truth, truth_of, value_of}
use Rattle.logic_linear.specs.declared.formula.Formula.{Formula}
use Rattle.logic_linear.specs.declared.substitution.Put.TheVariants as puts
use Rattle.logic_linear.specs.declared.formula.Formula.TheVariants as formulas
use Rattle.logic_linear.specs.declared.formula.Formula.TheOpen as rows
use Rattle.logic_linear.specs.declared.formula.Formula.TheFolds.{fold-roll-Formula}
use Rattle.lang_monitor.specs.declared.monitor.Stmt.TheVariants as statements
use Rattle.lang_monitor.specs.Bodies.{Inputs, Memory, effect_of, fits_64, form_value, memory_of, on_memory, valuation}
use Rattle.lang_monitor.specs.Statements.{Effect, in_turn}
use Rattle.lang_monitor.proofs.Statements.{put_effect}
use Rattle.machine_implicit.specs.declared.commit.Reply.{Reply}
use Rattle.machine_implicit.specs.Steps.{BlockSteps, guard_truth}
use Rattle.machine_stress.specs.LargeInput.{buffer_of, count_and, counting_block, has_room, has_some, less_count}

-- so much is in the buffer
abbrev pub holding : ℕ → List Value
holding count = values.Int (pos count) ∷ []

-- ---- guards

pub row_truth : (v : Valuation) (form : Linear)
    → truth_of v (formulas.Row form) ≡ int_le (value_of v form) (pos 0)
row_truth v form = ap (truth_of v) (sym (formulas.rolls-Row form)) ∙ fold-roll-Formula Bool (layer_truth v) (rows.Row form)

pub room_true : (capacity count : ℕ) (inputs : Inputs) → count < capacity
    → guard_truth (buffer_of capacity) (holding count) 0 inputs ≡ true
room_true capacity count inputs less = row_truth (valuation (holding count) inputs) (count_and (pos 1 -ℤ pos capacity)) ∙ grind (arith, ints)

pub room_needed : (capacity count : ℕ) (inputs : Inputs)
    → guard_truth (buffer_of capacity) (holding count) 0 inputs ≡ true → count < capacity
room_needed capacity count inputs holds =
    let is = sym (row_truth (valuation (holding count) inputs) (count_and (pos 1 -ℤ pos capacity))) ∙ holds in grind (arith, ints, is)

pub some_true : (capacity count : ℕ) (inputs : Inputs) → 0 < count
    → guard_truth (buffer_of capacity) (holding count) 1 inputs ≡ true
some_true capacity count inputs some = row_truth (valuation (holding count) inputs) (less_count (pos 1)) ∙ grind (arith, ints)

pub some_needed : (capacity count : ℕ) (inputs : Inputs)
    → guard_truth (buffer_of capacity) (holding count) 1 inputs ≡ true → 0 < count
some_needed capacity count inputs holds =
    let is = sym (row_truth (valuation (holding count) inputs) (less_count (pos 1))) ∙ holds in grind (arith, ints, is)

-- ---- bodies

-- the state after an assignment that is within 64 bits
assigned : (number : ℕ) (guard : Formula) (form : Linear) (inputs : Inputs) (count next : ℕ)
    (reply : Reply) (memory : Memory)
    → form_value inputs.arguments form (memory_of (holding count) inputs) ≡ values.Int (pos next)
    → fits_64 (values.Int (pos next)) ≡ true
    → BlockSteps (counting_block number guard form) inputs (holding count) reply memory
    → memory.state ≡ holding next
assigned number guard form inputs count next reply memory worth fits steps =
    let before : Memory = memory_of (holding count) inputs in
    let Does : Effect Memory → Type 0 = λ effect. ((in_turn (effect ∷ [])).overflows before ≡ false) × (((in_turn (effect ∷ [])).next before).state ≡ holding next) in
    let does : Does (effect_of inputs.arguments (statements.Put (puts.Number 0 form))) =
    subst Does (sym (put_effect (on_memory inputs.arguments) (puts.Number 0 form)))
    (ap (λ (value : Value). not (fits_64 value) || false) worth ∙ ap (λ (test : Bool). not test || false) fits, ap (λ (value : Value). value ∷ []) worth) in
    elim steps [
      | inl whole ↦ ap (λ (some : Memory). some.state) whole.2 ∙ does.1
      | inr over ↦ absurd (let wrong = sym (ap (λ (test : Bool). test || false) does.0) ∙ over.0 in cc)
    ]

-- ---- numbers

fits_count : (count : ℕ) → count < 2 ^ 63 → fits_64 (values.Int (pos count)) ≡ true
fits_count count small = grind (arith, ints)

one_more : (count : ℕ) → pos 1 *ℤ pos count +ℤ pos 0 +ℤ pos 1 ≡ pos (suc count)
one_more count = omega (arith, ints)

one_less : (count : ℕ) → pos 1 *ℤ pos (suc count) +ℤ pos 0 +ℤ neg_ℤ (pos 1) ≡ pos count
one_less count = omega (arith, ints)

-- ---- steps

pub put_adds : (capacity count : ℕ) (inputs : Inputs) (reply : Reply) (memory : Memory)
    → suc count < 2 ^ 63
    → BlockSteps (counting_block 0 (has_room capacity) (count_and (pos 1))) inputs
    (holding count) reply memory → memory.state ≡ holding (suc count)
put_adds capacity count inputs reply memory small steps =
    assigned 0 (has_room capacity) (count_and (pos 1)) inputs count (suc count) reply memory (ap values.Int (one_more count)) (fits_count (suc count) small) steps

pub get_takes : (count : ℕ) (inputs : Inputs) (reply : Reply) (memory : Memory) → count < 2 ^ 63
    → BlockSteps (counting_block 1 has_some (count_and (neg_ℤ (pos 1)))) inputs
    (holding (suc count)) reply memory → memory.state ≡ holding count
get_takes count inputs reply memory small steps =
    assigned 1 has_some (count_and (neg_ℤ (pos 1))) inputs (suc count) count reply memory (ap values.Int (one_less count)) (fits_count count small) steps
