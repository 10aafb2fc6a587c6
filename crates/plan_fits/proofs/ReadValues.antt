-- What forms and formulas read at the values of a valuation.
use Rattle.std.proofs.Common.{◌≡◌, ℕ, zero, suc, ◌+◌, ◌-◌, ◌≤◌, ◌^◌, ℤ, pos, ◌+ℤ◌, ◌*ℤ◌, Bool, true, false, cond, List, [], ◌∷◌, ap, arith, refl, ◌∙◌}
use Rattle.std.specs.Prelude.{nat_lt, slice_get, unwrap_or}
use Rattle.std.specs.List.{list_all}
use Rattle.std.proofs.lemmas.Bool.{and_parts}
use Rattle.lang_base.specs.Numbers.{is_within}
use Rattle.lang_base.specs.declared.kind.Kind.{Kind}
use Rattle.lang_base.specs.declared.kind.Kind.TheVariants as kinds
use Rattle.lang_base.specs.declared.value.Value.{Value}
use Rattle.lang_base.specs.declared.value.Value.TheVariants as values
use Rattle.logic_linear.specs.declared.form.Term.{Term}
use Rattle.logic_linear.specs.declared.formula.Formula.{Formula}
use Rattle.logic_linear.specs.Linear.{Linear}
use Rattle.logic_linear.specs.Truth.{Valuation, sum_of, truth_of, value_of}
use Rattle.lang_monitor.specs.MonitorParts.{AreOfKinds, Places, fits_form, fits_formula, fits_term, is_kind, kind_at}
use Rattle.lang_monitor.specs.Bodies.{Memory, inputs_from, memory_of, number_of_value, truth_of_value, valuation, value_at, values_from}
use Rattle.logic_wp.proofs.BodyStates.{HasKinds, body_reaches_memory, formula_read}

-- the state, and the state with the locals, that a valuation has
abbrev pub state_at : Places → Valuation → List Value
state_at places v = values_from v 0 places.fields

abbrev pub memory_at : Places → Valuation → Memory
memory_at places v = memory_of (state_at places v) (inputs_from v places)

abbrev pub reading_at : Places → Valuation → Valuation
reading_at places v = valuation (state_at places v) (inputs_from v places)

-- ---- single values

next_slot : (base i : ℕ) → (base + 1) + i ≡ base + suc i
next_slot base i = omega arith

pub slot_number : (v : Valuation) (base : ℕ) (some : List Kind) (i : ℕ)
    → is_kind kinds.Int (slice_get some i) ≡ true
    → number_of_value (unwrap_or (slice_get (values_from v base some) i) (values.Int (pos 0)))
    ≡ v.number (base + i)
slot_number v base [] i e = absurd cc
slot_number v base (kinds.Int ∷ some) zero e = ap v.number (omega arith)
slot_number v base (kinds.Bool ∷ some) zero e = absurd cc
slot_number v base (kinds.Int ∷ some) (suc i) e = slot_number v (base + 1) some i e ∙ ap v.number (next_slot base i)
slot_number v base (kinds.Bool ∷ some) (suc i) e = slot_number v (base + 1) some i e ∙ ap v.number (next_slot base i)

pub slot_flag : (v : Valuation) (base : ℕ) (some : List Kind) (i : ℕ)
    → is_kind kinds.Bool (slice_get some i) ≡ true
    → truth_of_value (unwrap_or (slice_get (values_from v base some) i) (values.Int (pos 0)))
    ≡ v.flag (base + i)
slot_flag v base [] i e = absurd cc
slot_flag v base (kinds.Bool ∷ some) zero e = ap v.flag (omega arith)
slot_flag v base (kinds.Int ∷ some) zero e = absurd cc
slot_flag v base (kinds.Int ∷ some) (suc i) e = slot_flag v (base + 1) some i e ∙ ap v.flag (next_slot base i)
slot_flag v base (kinds.Bool ∷ some) (suc i) e = slot_flag v (base + 1) some i e ∙ ap v.flag (next_slot base i)

abbrev held_number : Bool → Bool → List Value → List Value → List Value → ℕ → ℤ
held_number low middle fields inputs locals place =
    number_of_value (unwrap_or (cond low (slice_get fields place) (cond middle (slice_get inputs (place - 16)) (slice_get locals (place - 22)))) (values.Int (pos 0)))

pub number_read : (places : Places) (v : Valuation) (place : ℕ)
    → is_kind kinds.Int (kind_at places place) ≡ true
    → number_of_value (value_at (state_at places v) (inputs_from v places) place) ≡ v.number place
number_read places v place e = by (nat_lt place 16) (nat_lt place 22) refl refl e
  where
    by : (low middle : Bool) → nat_lt place 16 ≡ low → nat_lt place 22 ≡ middle
        → is_kind kinds.Int (cond low (slice_get places.fields place)
        (cond middle (slice_get places.inputs (place - 16)) (slice_get places.locals (place - 22)))) ≡ true
        → held_number low middle (values_from v 0 places.fields) (values_from v 16 places.inputs) (values_from v 22 places.locals) place
        ≡ v.number place
    by true middle l m e = slot_number v 0 places.fields place e ∙ ap v.number (omega arith)
    by false true l m e = let above : 16 ≤ place = grind arith in slot_number v 16 places.inputs (place - 16) e ∙ ap v.number (omega arith)
    by false false l m e = let above : 22 ≤ place = grind arith in slot_number v 22 places.locals (place - 22) e ∙ ap v.number (omega arith)

-- ---- forms and formulas

same_sum : (t a b c d : ℤ) → a ≡ b → c ≡ d → t *ℤ a +ℤ c ≡ t *ℤ b +ℤ d
same_sum t a b c d e f = rw (e, f) refl

sum_read : (places : Places) (v : Valuation) (terms : List Term)
    → list_all (fits_term places) terms ≡ true
    → sum_of (reading_at places v) terms ≡ sum_of v terms
sum_read places v [] e = refl
sum_read places v (term ∷ terms) e =
    let both = and_parts (fits_term places term) (list_all (fits_term places) terms) e in
    let kind = (and_parts (is_kind kinds.Int (kind_at places term.place)) (is_within (2 ^ 31) term.times) both.0).0 in
    same_sum term.times _ _ _ _ (number_read places v term.place kind) (sum_read places v terms both.1)

pub form_read : (places : Places) (v : Valuation) (form : Linear) → fits_form places form ≡ true
    → value_of (reading_at places v) form ≡ value_of v form
form_read places v form e =
    ap (λ (n : ℤ). n +ℤ form.constant) (sum_read places v form.terms (and_parts (list_all (fits_term places) form.terms) (is_within (2 ^ 64) form.constant) e).0)

slots_kinds : (v : Valuation) (base : ℕ) (some : List Kind)
    → AreOfKinds some (values_from v base some)
slots_kinds v base [] = tt
slots_kinds v base (kinds.Int ∷ some) = (tt, slots_kinds v (base + 1) some)
slots_kinds v base (kinds.Bool ∷ some) = (tt, slots_kinds v (base + 1) some)

pub are_kinds : (v : Valuation) (base : ℕ) (some : List Kind)
    → AreOfKinds some (values_from v base some)
are_kinds v base some = slots_kinds v base some

pub has_kinds_at : (places : Places) (v : Valuation) → HasKinds places (memory_at places v)
has_kinds_at places v = record { state = slots_kinds v 0 places.fields; locals = slots_kinds v 22 places.locals }

pub truth_read : (places : Places) (v : Valuation) (formula : Formula)
    → fits_formula places formula ≡ true
    → truth_of (reading_at places v) formula ≡ truth_of v formula
truth_read places v formula e =
    formula_read places v (memory_at places v) (has_kinds_at places v) formula e
    ∙ ap (λ (u : Valuation). truth_of u formula) (body_reaches_memory places v [] refl)
