-- Conditions of kind signal whose wake-ups are counted, and the plans that are lawful by counting.
use Rattle.std.specs.Prelude.{◌≡◌, ◌==◌, ◌⊎◌, ℕ, ◌+◌, ◌-◌, ◌<◌, ◌≤◌, ℤ, pos, negsuc, Bool, true}
use Rattle.std.specs.Prelude.{false, not, ◌&&◌, List, [], ◌∷◌, Some, slice_get, get_or, length}
use Rattle.std.specs.Prelude.{if◌then◌else◌}
use Rattle.logic_linear.specs.Linear.{Linear}
use Rattle.logic_linear.specs.declared.formula.Formula.{Formula}
use Rattle.logic_linear.specs.declared.formula.Formula.TheVariants as formulas
use Rattle.logic_linear.specs.declared.formula.Formula.TheOpen.{Formula-F, Row, Flag, All}
use Rattle.logic_linear.specs.declared.formula.Formula.TheOpen.{Any as Some_of}
use Rattle.logic_linear.specs.declared.formula.Formula.TheViews.{out-Formula}
use Rattle.logic_linear.specs.declared.formula.Formula.TheFolds.{fold-Formula}
use Rattle.std.specs.List.{filter, flat_map, list_any}
use Rattle.logic_linear.specs.Truth.{value_of, truth_of}
use Rattle.logic_linear.specs.Places.{rows_of}
use Rattle.lang_base.specs.declared.value.Value.{Value}
use Rattle.lang_monitor.specs.declared.monitor.Block.{Block}
use Rattle.lang_monitor.specs.declared.monitor.Condition.{Condition}
use Rattle.lang_monitor.specs.MonitorParts.{MonitorParts}
use Rattle.lang_monitor.specs.Inputs.{reads_inputs}
use Rattle.lang_monitor.specs.Bodies.{Inputs, no_inputs, valuation, after}
use Rattle.lang_monitor.specs.Triples.{IsInductive, NoneNeeded, OneEnough}
use Rattle.machine_implicit.specs.Steps.{condition_truth}
use Rattle.machine_events.specs.declared.plan.CondKind.TheVariants as kinds
use Rattle.machine_events.specs.declared.plan.Plan.{Plan}
use Rattle.machine_events.specs.Plans.{notes_at, condition_kind, has_note}
use Rattle.machine_events.specs.Plans.{has_broadcast, IsCondition}
use Rattle.machine_events.specs.Plans.{EachNoteOn, WakesAll}
use Rattle.machine_events.specs.Running.{MayRun}

-- ---- how many clients may pass a guard

-- How the clients are counted that may pass a guard: where it is true one may, and one more for
-- each by which the form is below 0; where the formula is true too, any number may.
pub record Measure : Type 0 where
  pub form : Linear
  pub free : Formula

-- by how much a number is below 0
abbrev pub below_zero : ℤ → ℕ
below_zero (pos n) = 0
below_zero (negsuc n) = n + 1

-- the slack of a condition whose guard reads no inputs: for the guard `form <= 0` it is `1 - form`
-- where that is positive, else 0
abbrev pub slack : MonitorParts → Measure → List Value → ℕ → ℕ
slack monitor measure state condition =
    if condition_truth monitor state condition
    then 1 + below_zero (value_of (valuation state no_inputs) measure.form) else 0

-- any number may pass
abbrev pub is_free : MonitorParts → Measure → List Value → ℕ → Bool
is_free monitor measure state condition =
    condition_truth monitor state condition
    && truth_of (valuation state no_inputs) measure.free

-- ---- the measures of a guard

abbrev pub zero_form : Linear
zero_form = record { terms = []; constant = pos 0 }

-- true nowhere
abbrev pub never : Formula
never = formulas.Any []

-- one client may pass where the guard is true
abbrev pub one_passes : Measure
one_passes = record { form = zero_form; free = never }

abbrev pub is_never_layer : Formula-F Formula → Bool
is_never_layer (Some_of []) = true
is_never_layer layer = false

abbrev pub is_never : Formula → Bool
is_never formula = is_never_layer (out-Formula formula)

-- all of the parts: nowhere true where one of them is so
abbrev pub every_of : List Formula → Formula
every_of parts = if list_any is_never parts then never else formulas.All parts

-- some of the parts, without those that are nowhere true
abbrev pub some_of : List Formula → Formula
some_of parts = formulas.Any (filter (λ part. not (is_never part)) parts)

-- The rows of a formula, and by a number that it is without the row of that number: it has the row
-- taken for false, and the parts left out that are then true nowhere. Rows count from 1.
pub record Cut : Type 0 where
  pub rows : List Linear
  pub without : ℕ → Formula

-- each part without the row of this number among the rows of all
abbrev pub parts_without : ℕ → List Cut → List Formula
parts_without row [] = []
parts_without row (part ∷ parts) =
    part.without row ∷ parts_without (row - length part.rows) parts

abbrev pub cut_layer : Formula-F Cut → Cut
cut_layer (Row form) = record {
  rows = form ∷ [];
  without = λ row. if row == 1 then never else formulas.Row form;
}
cut_layer (Flag place is) = record { rows = []; without = λ row. formulas.Flag place is }
cut_layer (All parts) = record {
  rows = flat_map (λ part. part.rows) parts;
  without = λ row. every_of (parts_without row parts);
}
cut_layer (Some_of parts) = record {
  rows = flat_map (λ part. part.rows) parts;
  without = λ row. some_of (parts_without row parts);
}

abbrev pub cut_of : Formula → Cut
cut_of = fold-Formula Cut cut_layer

-- the guard with its row of this number, from 1 in reading order, taken for false
abbrev pub without_row : ℕ → Formula → Formula
without_row row guard = (cut_of guard).without row

-- the measure of a guard by its row of this number: any number may pass where the guard is true
-- without that row
abbrev pub row_measure : Formula → ℕ → Measure
row_measure guard row = record {
  form = get_or (rows_of guard) (row - 1) zero_form;
  free = without_row row guard;
}

-- ---- conditions that are counted

abbrev pub one_if : Bool → ℕ
one_if true = 1
one_if false = 0

-- from a state to the next a block of this number leaves no more than there was, one less where it
-- is of the condition, and one more where it has a note on it
pub record LeavesCounted (monitor : MonitorParts) (plan : Plan) (measure : Measure) (condition : ℕ)
    (number : ℕ) (block : Block) (state next : List Value) : Type 0 where
  pub bounded : is_free monitor measure next condition ≡ false
  pub many : slack monitor measure next condition + one_if (block.condition == condition)
      ≤ slack monitor measure state condition
      + one_if (has_note (notes_at plan number) condition)

-- each block has a broadcast on the condition, or leaves it counted wherever it may run and not any
-- number may pass
abbrev pub IsCounted : MonitorParts → Plan → ℕ → Measure → Type 0
IsCounted monitor plan condition measure =
    (number : ℕ) (block : Block) → slice_get monitor.blocks number ≡ Some block
    → (has_broadcast (notes_at plan number) condition ≡ true)
    ⊎ ((inputs : Inputs) (state : List Value)
    → MayRun monitor plan.kept number block inputs state
    → is_free monitor measure state condition ≡ false
    → LeavesCounted monitor plan measure condition number block state
    (after inputs block.body state).state)

-- ---- lawful plans

-- after a block of the condition its guard is false, or the block has a note on it
abbrev pub IsPassedOn : MonitorParts → Plan → ℕ → Type 0
IsPassedOn monitor plan condition =
    (number : ℕ) (block : Block) → slice_get monitor.blocks number ≡ Some block
    → block.condition ≡ condition
    → OneEnough monitor plan.kept condition number
    ⊎ (has_note (notes_at plan number) condition ≡ true)

-- lawful, where a condition of kind signal may also be counted
pub record IsLawfulByCounting (monitor : MonitorParts) (plan : Plan) : Type 0 where
  pub inductive : IsInductive monitor plan.kept
  -- a pair of block and condition without a note needs none
  pub noted : (block condition : ℕ) → block < length monitor.blocks → 1 ≤ condition
      → condition ≤ length monitor.conditions
      → has_note (notes_at plan block) condition ≡ false
      → NoneNeeded monitor plan.kept block condition
  -- a condition whose guard reads inputs is of kind broadcast, and has only untested broadcasts
  pub reading : (number : ℕ) (condition : Condition) → IsCondition monitor number condition
      → reads_inputs condition.guard ≡ true → WakesAll plan number
  -- a condition of kind broadcast has only broadcasts
  pub broadcasts : (condition : ℕ) → condition_kind plan condition ≡ Some kinds.Broadcast
      → EachNoteOn plan condition (λ note. note.all ≡ true)
  -- a condition of kind signal is passed on by each of its blocks, or it is counted
  pub signals : (number : ℕ) (condition : Condition) → IsCondition monitor number condition
      → condition_kind plan number ≡ Some kinds.Signal
      → IsPassedOn monitor plan number
      ⊎ ((measure : Measure) × IsCounted monitor plan number measure)
