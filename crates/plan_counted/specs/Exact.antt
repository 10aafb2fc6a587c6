-- Exactly counted plans: what may be counted is, with no note but those that are placed or needed,
-- with no broadcast where a signal is enough, and by the row that needs the fewest broadcasts.
use Rattle.std.specs.Prelude.{◌≡◌, ◌↔◌, ℕ, ◌<◌, ◌≤◌, false, List, Some, None}
use Rattle.lang_monitor.specs.declared.candidate.Candidate.{Candidate}
use Rattle.lang_monitor.specs.MonitorParts.{MonitorParts}
use Rattle.machine_events.specs.declared.plan.CondKind.TheVariants as kinds
use Rattle.machine_events.specs.declared.plan.Note.{Note}
use Rattle.machine_events.specs.declared.plan.Plan.{Plan}
use Rattle.machine_events.specs.Plans.{notes_at, condition_kind}
use Rattle.logic_wp.specs.PlainClaims.{IsBlockNumber, IsConditionNumber}
use Rattle.plan_place.specs.Relayed.{note_on}
use Rattle.plan_count.specs.declared.question.Question.{Question}
use Rattle.plan_count.specs.declared.question.Question.TheVariants as questions
use Rattle.plan_count.specs.Questions.{IsSo, MayAskQuestion}
use Rattle.plan_counted.specs.Counted.{IsCountedFrom, IsOpen, IsTried, IsUnnoted, MayCount}
use Rattle.plan_counted.specs.Counted.{broadcasts_on}

-- the prover may leave no question open
abbrev pub HasNoOpenQuestion : MonitorParts → List Candidate → Type 0
HasNoOpenQuestion monitor kept =
    (question : Question) → MayAskQuestion monitor question → IsOpen monitor kept question → ⊥

-- One signal is enough for the condition: the block leaves it counted with one, and lets in one at
-- most where nobody could pass.
pub record IsOneEnough (monitor : MonitorParts) (plan : Plan) (condition row block : ℕ) : Type 0
  where
    pub gives : IsSo monitor plan.kept (questions.Gives condition row block)
    pub first : IsSo monitor plan.kept (questions.First condition row block)

-- what a block has on a condition that was of kind broadcast and is of kind signal
pub record IsExactlyTold (monitor : MonitorParts) (placed counted : Plan)
    (condition row block : ℕ) : Type 0 where
  -- no note exactly where none was placed, and the block leaves it counted with none
  pub unnoted : (note_on (notes_at counted block) condition
      ≡ None) ↔ IsUnnoted monitor placed condition row block
  -- a signal exactly where one is enough
  pub signals : (note : Note) → note_on (notes_at counted block) condition ≡ Some note
      → (note.all ≡ false) ↔ IsOneEnough monitor placed condition row block

-- by the row, which is tried, the condition may be counted
pub record CountsBy (monitor : MonitorParts) (placed : Plan) (condition row : ℕ) : Type 0 where
  pub tried : IsTried monitor condition row
  pub may : MayCount monitor placed condition row

abbrev pub MayCountBySome : MonitorParts → Plan → ℕ → Type 0
MayCountBySome monitor placed condition = (row : ℕ) × CountsBy monitor placed condition row

-- by the row the condition may be counted, and each block has exactly what it needs
pub record IsExactlyToldBy (monitor : MonitorParts) (placed counted : Plan) (condition row : ℕ) :
    Type 0 where
  pub counts : CountsBy monitor placed condition row
  pub told : (block : ℕ) → IsBlockNumber monitor block
      → IsExactlyTold monitor placed counted condition row block

-- By a row each block has exactly what it needs: whatever plan has so by another row has no fewer
-- broadcasts on the condition, and by an earlier one it has more.
pub record IsExactlyToldByBest (monitor : MonitorParts) (placed counted : Plan) (condition : ℕ) :
    Type 0 where
  pub row : ℕ
  pub exactly : IsExactlyToldBy monitor placed counted condition row
  pub fewest : (other : ℕ) (plan : Plan) → IsExactlyToldBy monitor placed plan condition other
      → broadcasts_on monitor counted condition ≤ broadcasts_on monitor plan condition
  pub first : (earlier : ℕ) (plan : Plan) → earlier < row
      → IsExactlyToldBy monitor placed plan condition earlier
      → broadcasts_on monitor counted condition < broadcasts_on monitor plan condition

-- what may be counted is, by the row with the fewest broadcasts, with a note exactly where one is
-- placed or needed, and a signal exactly where one is enough
pub record IsExactlyCounted (monitor : MonitorParts) (placed counted : Plan) : Type 0 where
  -- a condition that was of kind broadcast is of kind signal exactly where it may be counted
  pub made_signal : (condition : ℕ) → IsConditionNumber monitor condition
      → condition_kind placed condition ≡ Some kinds.Broadcast
      → (condition_kind counted condition ≡ Some kinds.Signal)
      ↔ MayCountBySome monitor placed condition
  pub told : (condition : ℕ) → IsConditionNumber monitor condition
      → condition_kind placed condition ≡ Some kinds.Broadcast
      → condition_kind counted condition ≡ Some kinds.Signal
      → IsExactlyToldByBest monitor placed counted condition

-- where no question may stay open a plan that is counted is so exactly
abbrev pub CountedIsExact : Type 0
CountedIsExact =
    (monitor : MonitorParts) (placed counted : Plan) → IsCountedFrom monitor placed counted
    → HasNoOpenQuestion monitor placed.kept → IsExactlyCounted monitor placed counted
