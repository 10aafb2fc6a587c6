-- What is asked of a block and a condition whose signals are counted, and what the answers make.
use Rattle.std.specs.Prelude.{◌≡◌, ◌==◌, ◌⊎◌, ℕ, Bool, true, false, List, slice_get}
use Rattle.std.specs.Option.{option_map_or}
use Rattle.lang_monitor.specs.declared.candidate.Candidate.{Candidate}
use Rattle.lang_monitor.specs.declared.query.Query.{Query}
use Rattle.lang_monitor.specs.declared.monitor.Condition.{Condition}
use Rattle.lang_monitor.specs.MonitorParts.{MonitorParts, IsMonitor}
use Rattle.lang_monitor.specs.Inputs.{reads_inputs}
use Rattle.lang_monitor.specs.Queries.{waiting_guard}
use Rattle.lang_monitor.specs.Triples.{IsValidQuery}
use Rattle.machine_events.specs.declared.plan.Plan.{Plan}
use Rattle.machine_events.specs.Plans.{notes_at, has_note, has_broadcast, IsCondition}
use Rattle.machine_events.specs.Counts.{Measure, row_measure}
use Rattle.machine_events.specs.CountClaims.{still_query, fresh_query}
use Rattle.machine_events.specs.CountClaims.{HasRow, IsCountedByGuard}
use Rattle.logic_wp.specs.PlainClaims.{IsBlockNumber, ReadsNone}
use Rattle.plan_count.specs.declared.question.Question.{Question}
use Rattle.plan_count.specs.declared.question.Question.TheVariants as questions

-- ---- questions

-- how the clients are counted that may pass the guard of a condition, by a row of it
abbrev pub condition_measure : MonitorParts → ℕ → ℕ → Measure
condition_measure monitor condition row = row_measure (waiting_guard monitor condition) row

-- the monitor has this block, and it waits at the condition
abbrev pub takes_at : MonitorParts → ℕ → ℕ → Bool
takes_at monitor condition block =
    option_map_or (λ held. held.condition == condition) (slice_get monitor.blocks block) false

-- whether the block leaves the condition counted, with one signal on it or with no note
abbrev pub leaves_query : MonitorParts → List Candidate → ℕ → ℕ → ℕ → Bool → Query
leaves_query monitor kept condition row block gives =
    still_query monitor kept (condition_measure monitor condition row) condition block
    (takes_at monitor condition block) gives

-- whether at most one client may pass after the block, where none could before
abbrev pub first_query : MonitorParts → List Candidate → ℕ → ℕ → ℕ → Query
first_query monitor kept condition row block =
    fresh_query monitor kept (condition_measure monitor condition row) condition block

-- the query of a question under the kept candidates
abbrev pub question_query : MonitorParts → List Candidate → Question → Query
question_query monitor kept (questions.Counts condition row block) =
    leaves_query monitor kept condition row block false
question_query monitor kept (questions.Gives condition row block) =
    leaves_query monitor kept condition row block true
question_query monitor kept (questions.First condition row block) =
    first_query monitor kept condition row block

-- the guard of the condition has a row of this number
abbrev pub HasRowAt : MonitorParts → ℕ → ℕ → Type 0
HasRowAt monitor condition row = HasRow (waiting_guard monitor condition) row

-- a block of the monitor, and a condition whose guard reads no inputs and has the row
pub record MayBeAsked (monitor : MonitorParts) (condition row block : ℕ) : Type 0 where
  pub is_block : IsBlockNumber monitor block
  pub reads_none : ReadsNone monitor condition
  pub has_row : HasRowAt monitor condition row

-- a query can be made of the question
abbrev pub MayAskQuestion : MonitorParts → Question → Type 0
MayAskQuestion monitor (questions.Counts condition row block) =
    MayBeAsked monitor condition row block
MayAskQuestion monitor (questions.Gives condition row block) =
    MayBeAsked monitor condition row block
MayAskQuestion monitor (questions.First condition row block) =
    MayBeAsked monitor condition row block

-- ---- answers

-- what a question asks is so
abbrev pub IsSo : MonitorParts → List Candidate → Question → Type 0
IsSo monitor kept question = IsValidQuery monitor (question_query monitor kept question)

-- a block with no note on the condition leaves it counted by the row
pub record CountsWithNone (monitor : MonitorParts) (plan : Plan) (condition row block : ℕ) :
    Type 0 where
  pub none : has_note (notes_at plan block) condition ≡ false
  pub counts : IsSo monitor plan.kept (questions.Counts condition row block)

-- a block with a note on the condition leaves it counted, were it a signal
pub record CountsWithOne (monitor : MonitorParts) (plan : Plan) (condition row block : ℕ) :
    Type 0 where
  pub one : has_note (notes_at plan block) condition ≡ true
  pub gives : IsSo monitor plan.kept (questions.Gives condition row block)
  pub first : takes_at monitor condition block ≡ false
      → IsSo monitor plan.kept (questions.First condition row block)

-- a broadcast, no note, or a note, as the answers say
abbrev pub IsToldRight : MonitorParts → Plan → ℕ → ℕ → ℕ → Type 0
IsToldRight monitor plan condition row block =
    (has_broadcast (notes_at plan block) condition ≡ true)
    ⊎ (CountsWithNone monitor plan condition row block
    ⊎ CountsWithOne monitor plan condition row block)

-- so of each block
abbrev pub AreToldRight : MonitorParts → Plan → ℕ → ℕ → Type 0
AreToldRight monitor plan condition row =
    (block : ℕ) → IsBlockNumber monitor block → IsToldRight monitor plan condition row block

-- a condition that reads no inputs is then counted by that row of its guard
abbrev pub AnswersCount : Type 0
AnswersCount =
    (monitor : MonitorParts) (plan : Plan) (number row : ℕ) (which : Condition)
    → IsMonitor monitor → IsCondition monitor number which → reads_inputs which.guard ≡ false
    → HasRowAt monitor number row → AreToldRight monitor plan number row
    → IsCountedByGuard monitor plan number which.guard
