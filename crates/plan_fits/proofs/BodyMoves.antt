-- What a body does to the values of a valuation is what it does to the valuation.
use Rattle.std.proofs.Common.{◌≡◌, ℕ, suc, ◌+◌, ◌-◌, ◌<◌, ℤ, Bool, true, cond, List, [], ◌∷◌, length, None, ap, arith, refl, sym, ◌∙◌}
use Rattle.std.specs.Prelude.{nat_lt, slice_get}
use Rattle.std.specs.List.{list_all}
use Rattle.std.proofs.lemmas.Bool.{lt-ltb, le-ltb}
use Rattle.lang_base.specs.declared.kind.Kind.{Kind}
use Rattle.lang_base.specs.declared.kind.Kind.TheVariants as kinds
use Rattle.lang_base.specs.declared.value.Value.{Value}
use Rattle.lang_base.specs.declared.value.Value.TheVariants as values
use Rattle.logic_linear.specs.Truth.{Valuation}
use Rattle.lang_monitor.specs.declared.monitor.Stmt.{Stmt}
use Rattle.lang_monitor.specs.MonitorParts.{AreOfKinds, Places, fits_statement}
use Rattle.lang_monitor.specs.Bodies.{Memory, body_effect, held_at, number_or, truth_or, values_from, with_memory}
use Rattle.lang_monitor.specs.Changes.{body_change}
use Rattle.machine_implicit.specs.inner.Placed.{AreFewPlaces}
use Rattle.machine_events.proofs.Valuations.{few_held}
use Rattle.logic_wp.proofs.BodyStates.{body_follows}
use Rattle.plan_fits.proofs.ReadValues.{memory_at}

-- ---- what is held at a place

field_place : (memory : Memory) (i : ℕ) → i < 16 → held_at memory (0 + i) ≡ slice_get memory.state i
field_place memory i below =
    ap (λ (test : Bool). cond test (slice_get memory.state (0 + i)) (cond (nat_lt (0 + i) 22) (slice_get [] ((0 + i) - 16)) (slice_get memory.locals ((0 + i) - 22)))) (lt-ltb (0 + i) 16 (omega arith))
    ∙ ap (slice_get memory.state) (omega arith)

input_place : (memory : Memory) (i : ℕ) → i < 6 → held_at memory (16 + i) ≡ None
input_place memory i below =
    ap (λ (test : Bool). cond test (slice_get memory.state (16 + i)) (cond (nat_lt (16 + i) 22) (slice_get [] ((16 + i) - 16)) (slice_get memory.locals ((16 + i) - 22)))) (le-ltb (16 + i) 16 (omega arith))
    ∙ ap (λ (test : Bool). cond test (slice_get [] ((16 + i) - 16)) (slice_get memory.locals ((16 + i) - 22))) (lt-ltb (16 + i) 22 (omega arith))

local_place : (memory : Memory) (i : ℕ) → held_at memory (22 + i) ≡ slice_get memory.locals i
local_place memory i =
    ap (λ (test : Bool). cond test (slice_get memory.state (22 + i)) (cond (nat_lt (22 + i) 22) (slice_get [] ((22 + i) - 16)) (slice_get memory.locals ((22 + i) - 22)))) (le-ltb (22 + i) 16 (omega arith))
    ∙ ap (λ (test : Bool). cond test (slice_get [] ((22 + i) - 16)) (slice_get memory.locals ((22 + i) - 22))) (le-ltb (22 + i) 22 (omega arith))
    ∙ ap (slice_get memory.locals) (omega arith)

-- ---- values that a valuation gives back

next_slot : (base i : ℕ) → (base + 1) + i ≡ base + suc i
next_slot base i = omega arith

first_slot : (base : ℕ) → base ≡ base + 0
first_slot base = omega arith

slots_back : (w : Valuation) (base : ℕ) (some : List Kind) (held : List Value) (n : ℕ → ℤ)
    (f : ℕ → Bool) → AreOfKinds some held
    → ((i : ℕ) → i < length held → w.number (base + i) ≡ number_or (n i) (slice_get held i))
    → ((i : ℕ) → i < length held → w.flag (base + i) ≡ truth_or (f i) (slice_get held i))
    → values_from w base some ≡ held
slots_back w base [] [] n f are numbers flags = refl
slots_back w base [] (value ∷ held) n f are numbers flags = absurd are
slots_back w base (kinds.Int ∷ some) [] n f are numbers flags = absurd are
slots_back w base (kinds.Bool ∷ some) [] n f are numbers flags = absurd are
slots_back w base (kinds.Int ∷ some) (values.Int number ∷ held) n f are numbers flags =
    ap (λ (z : ℤ). values.Int z ∷ values_from w (base + 1) some) (ap w.number (first_slot base) ∙ numbers 0 (omega arith))
    ∙ ap (λ (rest : List Value). values.Int number ∷ rest)
    (slots_back w (base + 1) some held (λ i. n (suc i)) (λ i. f (suc i)) are.1
    (λ i below. ap w.number (next_slot base i) ∙ numbers (suc i) (omega arith))
    (λ i below. ap w.flag (next_slot base i) ∙ flags (suc i) (omega arith)))
slots_back w base (kinds.Bool ∷ some) (values.Bool truth ∷ held) n f are numbers flags =
    ap (λ (b : Bool). values.Bool b ∷ values_from w (base + 1) some) (ap w.flag (first_slot base) ∙ flags 0 (omega arith))
    ∙ ap (λ (rest : List Value). values.Bool truth ∷ rest)
    (slots_back w (base + 1) some held (λ i. n (suc i)) (λ i. f (suc i)) are.1
    (λ i below. ap w.number (next_slot base i) ∙ numbers (suc i) (omega arith))
    (λ i below. ap w.flag (next_slot base i) ∙ flags (suc i) (omega arith)))
slots_back w base (kinds.Int ∷ some) (values.Bool truth ∷ held) n f are numbers flags = absurd are.0
slots_back w base (kinds.Bool ∷ some) (values.Int number ∷ held) n f are numbers flags = absurd are.0

slots_same : (w u : Valuation) (base : ℕ) (some : List Kind)
    → ((i : ℕ) → i < length some → w.number (base + i) ≡ u.number (base + i))
    → ((i : ℕ) → i < length some → w.flag (base + i) ≡ u.flag (base + i))
    → values_from w base some ≡ values_from u base some
slots_same w u base [] numbers flags = refl
slots_same w u base (kinds.Int ∷ some) numbers flags =
    ap (λ (z : ℤ). values.Int z ∷ values_from w (base + 1) some) (ap w.number (first_slot base) ∙ numbers 0 (omega arith) ∙ ap u.number (sym (first_slot base)))
    ∙ ap (λ (rest : List Value). values.Int (u.number base) ∷ rest)
    (slots_same w u (base + 1) some
    (λ i below. ap w.number (next_slot base i) ∙ numbers (suc i) (omega arith) ∙ ap u.number (sym (next_slot base i)))
    (λ i below. ap w.flag (next_slot base i) ∙ flags (suc i) (omega arith) ∙ ap u.flag (sym (next_slot base i))))
slots_same w u base (kinds.Bool ∷ some) numbers flags =
    ap (λ (b : Bool). values.Bool b ∷ values_from w (base + 1) some) (ap w.flag (first_slot base) ∙ flags 0 (omega arith) ∙ ap u.flag (sym (first_slot base)))
    ∙ ap (λ (rest : List Value). values.Bool (u.flag base) ∷ rest)
    (slots_same w u (base + 1) some
    (λ i below. ap w.number (next_slot base i) ∙ numbers (suc i) (omega arith) ∙ ap u.number (sym (next_slot base i)))
    (λ i below. ap w.flag (next_slot base i) ∙ flags (suc i) (omega arith) ∙ ap u.flag (sym (next_slot base i))))

memory_back : (places : Places) (v : Valuation) (next : Memory) → AreFewPlaces places
    → AreOfKinds places.fields next.state → AreOfKinds places.locals next.locals
    → memory_at places (with_memory v next) ≡ next
memory_back places v next few state locals =
    let fields : values_from (with_memory v next) 0 places.fields ≡ next.state =
    slots_back (with_memory v next) 0 places.fields next.state (λ i. v.number (0 + i)) (λ i. v.flag (0 + i)) state
    (λ i below. ap (number_or (v.number (0 + i))) (field_place next i (omega (arith, below, few_held places.fields next.state state, few.fields))))
    (λ i below. ap (truth_or (v.flag (0 + i))) (field_place next i (omega (arith, below, few_held places.fields next.state state, few.fields)))) in
    let own : values_from (with_memory v next) 22 places.locals ≡ next.locals =
    slots_back (with_memory v next) 22 places.locals next.locals (λ i. v.number (22 + i)) (λ i. v.flag (22 + i)) locals
    (λ i below. ap (number_or (v.number (22 + i))) (local_place next i))
    (λ i below. ap (truth_or (v.flag (22 + i))) (local_place next i)) in
    λ i. record { state = fields i; locals = own i }

arguments_back : (places : Places) (v : Valuation) (next : Memory) → AreFewPlaces places
    → values_from (with_memory v next) 16 places.inputs ≡ values_from v 16 places.inputs
arguments_back places v next few =
    slots_same (with_memory v next) v 16 places.inputs
    (λ i below. ap (number_or (v.number (16 + i))) (input_place next i (omega (arith, below, few.inputs))))
    (λ i below. ap (truth_or (v.flag (16 + i))) (input_place next i (omega (arith, below, few.inputs))))

-- ---- a body

pub record Reached (places : Places) (body : List Stmt) (v : Valuation) : Type 0 where
  pub memory : memory_at places (body_change body v) ≡ (body_effect (values_from v 16 places.inputs) body).next (memory_at places v)
  pub arguments : values_from (body_change body v) 16 places.inputs ≡ values_from v 16 places.inputs

pub body_reached : (places : Places) → AreFewPlaces places → (body : List Stmt) → list_all (fits_statement places) body ≡ true → (v : Valuation) → Reached places body v
body_reached places few body fits v =
    let run = (body_follows places v body fits).reaches in
    let next = (body_effect (values_from v 16 places.inputs) body).next (memory_at places v) in
    record {
      memory = ap (memory_at places) (sym run.reached) ∙ memory_back places v next few run.held.state run.held.locals;
      arguments = ap (λ (u : Valuation). values_from u 16 places.inputs) (sym run.reached) ∙ arguments_back places v next few;
    }
