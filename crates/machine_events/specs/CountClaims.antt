-- Valid triples by which a condition is counted.
use Rattle.std.specs.Prelude.{◌≡◌, ◌==◌, ◌⊎◌, ℕ, ◌+◌, ◌<◌, ◌≤◌, ℤ, pos, neg_ℤ, ◌+ℤ◌, ◌-ℤ◌}
use Rattle.std.specs.Prelude.{Bool, true, false, int_lt, if◌then◌else◌}
use Rattle.std.specs.Prelude.{List, [], ◌∷◌, Some, slice_get, length}
use Rattle.std.specs.List.{list_any}
use Rattle.lang_base.specs.Limits.{FIRST_INPUT}
use Rattle.logic_linear.specs.declared.form.Term.{Term}
use Rattle.logic_linear.specs.Linear.{Linear}
use Rattle.logic_linear.specs.Places.{rows_of}
use Rattle.logic_linear.specs.Sums.{sum_of_multiples}
use Rattle.logic_linear.specs.Negation.{negation}
use Rattle.logic_linear.specs.declared.formula.Formula.{Formula}
use Rattle.logic_linear.specs.declared.formula.Formula.TheVariants as formulas
use Rattle.lang_monitor.specs.declared.candidate.Candidate.{Candidate}
use Rattle.lang_monitor.specs.declared.query.Query.{Query}
use Rattle.lang_monitor.specs.declared.monitor.Block.{Block}
use Rattle.lang_monitor.specs.declared.monitor.Condition.{Condition}
use Rattle.lang_monitor.specs.MonitorParts.{MonitorParts}
use Rattle.lang_monitor.specs.Inputs.{reads_inputs, reads_term}
use Rattle.lang_monitor.specs.Queries.{block_guard, waiting_guard, hypotheses}
use Rattle.lang_monitor.specs.Triples.{IsInductive, IsValidQuery, NoneNeeded}
use Rattle.machine_events.specs.declared.plan.CondKind.TheVariants as kinds
use Rattle.machine_events.specs.declared.plan.Plan.{Plan}
use Rattle.machine_events.specs.Plans.{notes_at, condition_kind, has_note}
use Rattle.machine_events.specs.Plans.{has_broadcast, IsCondition}
use Rattle.machine_events.specs.Plans.{EachNoteOn, WakesAll}
use Rattle.machine_events.specs.Counts.{Measure, zero_form, row_measure, one_if, IsCounted}
use Rattle.machine_events.specs.Counts.{IsPassedOn, IsLawfulByCounting}

-- ---- forms

-- The place of what the form of a measure was worth before the block, or of that with its sign
-- turned. It is that of the first input of a client that waits, which no counted guard reads, and
-- which no block changes.
abbrev pub OLD : ℕ
OLD = FIRST_INPUT + FIRST_INPUT

-- of a form whose first term counts less than 0 the sign is turned: so a form of one variable is
-- tied to that place by rows of differences
abbrev pub is_turned : List Term → Bool
is_turned [] = false
is_turned (term ∷ terms) = int_lt term.times (pos 0)

abbrev pub old_sign : List Term → ℤ
old_sign terms = if is_turned terms then neg_ℤ (pos 1) else pos 1

-- what the form was worth before the block
abbrev pub old_form : Linear → Linear
old_form form = record {
  terms = record { place = OLD; times = old_sign form.terms } ∷ [];
  constant = pos 0;
}

abbrev pub minus : Linear → Linear → Linear
minus left right = sum_of_multiples (pos 1) left (neg_ℤ (pos 1)) right

abbrev pub more_by : ℤ → Linear → Linear
more_by number form = record { terms = form.terms; constant = form.constant +ℤ number }

-- what a block takes less what it gives
abbrev pub net : Bool → Bool → ℤ
net takes gives = pos (one_if takes) -ℤ pos (one_if gives)

-- ---- queries

-- the guard is false, or not any number may pass and the rest is true
abbrev pub where_open : MonitorParts → Measure → ℕ → List Formula → Formula
where_open monitor measure condition more =
    formulas.Any (negation (waiting_guard monitor condition)
    ∷ formulas.All (negation measure.free ∷ more) ∷ [])

-- where the guard was true, and is so after the block: the form is at most 0, and has fallen by no
-- more than the block gives less what it takes
abbrev pub still_query : MonitorParts → List Candidate → Measure → ℕ → ℕ → Bool → Bool → Query
still_query monitor kept measure condition block takes gives = record {
  hyps =
      hypotheses kept
      (block_guard monitor block ∷ waiting_guard monitor condition ∷ negation measure.free
      ∷ formulas.Row (minus measure.form (old_form measure.form))
      ∷ formulas.Row (minus (old_form measure.form) measure.form) ∷ []);
  block = block;
  post =
      where_open monitor measure condition
      (formulas.Row measure.form
      ∷ formulas.Row (more_by (net takes gives) (minus (old_form measure.form) measure.form))
      ∷ []);
}

-- where the guard was false, and is true after the block: the form is at least 0
abbrev pub fresh_query : MonitorParts → List Candidate → Measure → ℕ → ℕ → Query
fresh_query monitor kept measure condition block = record {
  hyps =
      hypotheses kept (block_guard monitor block ∷ negation (waiting_guard monitor condition) ∷ []);
  block = block;
  post =
      where_open monitor measure condition (formulas.Row (minus zero_form measure.form) ∷ []);
}

-- ---- conditions

-- the measure reads fields alone
pub record ReadsFields (measure : Measure) : Type 0 where
  pub form : list_any reads_term measure.form.terms ≡ false
  pub free : reads_inputs measure.free ≡ false

-- the queries of a block are valid; where it has no note on the condition, and the guard was false,
-- none is needed
pub record CountsBlock (monitor : MonitorParts) (plan : Plan) (condition : ℕ) (measure : Measure)
    (number : ℕ) (block : Block) : Type 0 where
  pub still : IsValidQuery monitor
      (still_query monitor plan.kept measure condition number (block.condition == condition)
      (has_note (notes_at plan number) condition))
  pub fresh : has_note (notes_at plan number) condition ≡ true
      → (block.condition == condition) ≡ false
      → IsValidQuery monitor (fresh_query monitor plan.kept measure condition number)

abbrev pub CountsEach : MonitorParts → Plan → ℕ → Measure → Type 0
CountsEach monitor plan condition measure =
    (number : ℕ) (block : Block) → slice_get monitor.blocks number ≡ Some block
    → (has_broadcast (notes_at plan number) condition ≡ true)
    ⊎ CountsBlock monitor plan condition measure number block

-- a pair of block and condition without a note needs none
abbrev pub AreNoted : MonitorParts → Plan → Type 0
AreNoted monitor plan =
    (block condition : ℕ) → block < length monitor.blocks → 1 ≤ condition
    → condition ≤ length monitor.conditions
    → has_note (notes_at plan block) condition ≡ false
    → NoneNeeded monitor plan.kept block condition

-- a guard has a row of this number, from 1
pub record HasRow (guard : Formula) (row : ℕ) : Type 0 where
  pub first : 1 ≤ row
  pub last : row ≤ length (rows_of guard)

-- counted by a row of its guard, as valid triples say
pub record IsCountedByGuard (monitor : MonitorParts) (plan : Plan) (number : ℕ) (guard : Formula) :
    Type 0 where
  pub row : ℕ
  pub has : HasRow guard row
  pub fields : ReadsFields (row_measure guard row)
  pub each : CountsEach monitor plan number (row_measure guard row)

-- lawful by valid triples alone, where a condition of kind signal may also be counted by a row of
-- its guard
pub record IsLawfulByGuards (monitor : MonitorParts) (plan : Plan) : Type 0 where
  pub inductive : IsInductive monitor plan.kept
  pub noted : AreNoted monitor plan
  pub reading : (number : ℕ) (condition : Condition) → IsCondition monitor number condition
      → reads_inputs condition.guard ≡ true → WakesAll plan number
  pub broadcasts : (condition : ℕ) → condition_kind plan condition ≡ Some kinds.Broadcast
      → EachNoteOn plan condition (λ note. note.all ≡ true)
  pub signals : (number : ℕ) (condition : Condition) → IsCondition monitor number condition
      → condition_kind plan number ≡ Some kinds.Signal
      → IsPassedOn monitor plan number
      ⊎ IsCountedByGuard monitor plan number condition.guard

-- lawful by counting then
abbrev pub GuardsCount : Type 0
GuardsCount =
    (monitor : MonitorParts) (plan : Plan) → IsLawfulByGuards monitor plan
    → IsLawfulByCounting monitor plan

-- where the queries of each block are valid the condition is counted
abbrev pub CountingApplies : Type 0
CountingApplies =
    (monitor : MonitorParts) (plan : Plan) (condition : ℕ) (which : Condition) (measure : Measure)
    → IsCondition monitor condition which → reads_inputs which.guard ≡ false
    → ReadsFields measure → AreNoted monitor plan
    → CountsEach monitor plan condition measure
    → IsCounted monitor plan condition measure
