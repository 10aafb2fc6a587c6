-- Plans that have on each condition what one of two plans has.
use Rattle.std.specs.Prelude.{◌≡◌, ◌⊎◌, ℕ}
use Rattle.lang_monitor.specs.MonitorParts.{MonitorParts}
use Rattle.machine_events.specs.declared.plan.Plan.{Plan}
use Rattle.machine_events.specs.Plans.{FitsPlan, notes_at, condition_kind}
use Rattle.machine_events.specs.Counts.{IsLawfulByCounting}
use Rattle.logic_wp.specs.PlainClaims.{IsConditionNumber}
use Rattle.plan_place.specs.Relayed.{note_on}

-- the plan has on the condition what the other has: its kind, and the note of each block
pub record HasAsIn (plan other : Plan) (condition : ℕ) : Type 0 where
  pub kind : condition_kind plan condition ≡ condition_kind other condition
  pub notes : (block : ℕ) → note_on (notes_at plan block) condition
      ≡ note_on (notes_at other block) condition

-- the plan keeps what both plans keep, and has on each condition what one of them has
pub record IsMixedOf (monitor : MonitorParts) (one other plan : Plan) : Type 0 where
  pub kept_by_one : plan.kept ≡ one.kept
  pub kept_by_other : plan.kept ≡ other.kept
  pub each : (condition : ℕ) → IsConditionNumber monitor condition
      → HasAsIn plan one condition ⊎ HasAsIn plan other condition

-- where both plans are lawful by counting, so is the one that is mixed of them
abbrev pub MixedPlansAreLawful : Type 0
MixedPlansAreLawful =
    (monitor : MonitorParts) (one other plan : Plan) → FitsPlan monitor one
    → FitsPlan monitor other → FitsPlan monitor plan → IsLawfulByCounting monitor one
    → IsLawfulByCounting monitor other → IsMixedOf monitor one other plan
    → IsLawfulByCounting monitor plan
