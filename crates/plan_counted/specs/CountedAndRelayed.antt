-- Counted plans in which the signals on every other condition are relayed.
use Rattle.std.specs.Prelude.{◌≡◌, ℕ, true, false, List, Option, Some, is_some}
use Rattle.lang_monitor.specs.MonitorParts.{MonitorParts}
use Rattle.machine_events.specs.declared.plan.CondKind.TheVariants as kinds
use Rattle.machine_events.specs.declared.plan.Plan.{Plan}
use Rattle.machine_events.specs.Plans.{FitsPlan, condition_kind, has_note, notes_at}
use Rattle.logic_wp.specs.PlainClaims.{IsConditionNumber}
use Rattle.plan_place.specs.Relayed.{relay_of}
use Rattle.plan_counted.specs.declared.counted.Column.{Column}
use Rattle.plan_counted.specs.Counted.{IsCountedFrom, column_at, counted_of}
use Rattle.plan_counted.specs.Mixed.{HasAsIn}

-- the relayed plan, with what a table says of each counted condition
abbrev pub counted_and_relayed : MonitorParts → Plan → List (Option Column) → Plan
counted_and_relayed monitor placed columns = counted_of (relay_of monitor placed) columns

-- the condition is of kind broadcast as it was placed, and of kind signal as it is counted
pub record IsCountedIn (placed counted : Plan) (condition : ℕ) : Type 0 where
  pub was : condition_kind placed condition ≡ Some kinds.Broadcast
  pub kind : condition_kind counted condition ≡ Some kinds.Signal

-- what is counted is as the counted plan has it, and all else as the relayed one has it
pub record IsCountedAndRelayed (monitor : MonitorParts) (placed counted plan : Plan) : Type 0 where
  pub kept : plan.kept ≡ placed.kept
  pub counts : (condition : ℕ) → IsConditionNumber monitor condition
      → IsCountedIn placed counted condition → HasAsIn plan counted condition
  pub relays : (condition : ℕ) → IsConditionNumber monitor condition
      → (IsCountedIn placed counted condition → ⊥)
      → HasAsIn plan (relay_of monitor placed) condition

-- each condition that a table counts is of kind broadcast as it was placed
abbrev pub CountsBroadcasts : MonitorParts → Plan → List (Option Column) → Type 0
CountsBroadcasts monitor placed columns =
    (condition : ℕ) → IsConditionNumber monitor condition
    → is_some (column_at columns condition) ≡ true
    → condition_kind placed condition ≡ Some kinds.Broadcast

-- where the plan leaves a note out, the placed one does
abbrev pub OmitsNoMore : Plan → Plan → Type 0
OmitsNoMore placed plan =
    (block condition : ℕ) → has_note (notes_at plan block) condition ≡ false
    → has_note (notes_at placed block) condition ≡ false

-- where a counted plan leaves a note out, the placed one does
abbrev pub CountedPlansOmitNoMore : Type 0
CountedPlansOmitNoMore =
    (monitor : MonitorParts) (placed counted : Plan) → FitsPlan monitor placed
    → IsCountedFrom monitor placed counted → OmitsNoMore placed counted
