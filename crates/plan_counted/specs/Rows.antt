-- The rows by which a table says that conditions are counted.
use Rattle.std.specs.Prelude.{◌≡◌, ℕ, ◌+◌, ◌<◌, ◌≤◌, List, Option, Some}
use Rattle.lang_monitor.specs.MonitorParts.{MonitorParts}
use Rattle.machine_events.specs.declared.plan.Plan.{Plan}
use Rattle.machine_events.specs.Plans.{notes_at}
use Rattle.logic_wp.specs.PlainClaims.{IsBlockNumber, IsConditionNumber}
use Rattle.plan_place.specs.Relayed.{note_on}
use Rattle.plan_counted.specs.declared.counted.Column.{Column}
use Rattle.plan_counted.specs.Counted.{HasNoFewer, IsTold, IsTried, broadcasts_on, column_at}

-- The row is tried, and by it each block has what the counted plan has on the condition: by no
-- other row that is tried it has fewer broadcasts, and by each earlier one it has more.
pub record IsBestRow (monitor : MonitorParts) (placed counted : Plan) (condition row : ℕ) : Type 0
  where
    pub tried : IsTried monitor condition row
    pub told : (block : ℕ) → IsBlockNumber monitor block
        → IsTold monitor placed condition row block (note_on (notes_at counted block) condition)
    pub fewest : (other : ℕ) → IsTried monitor condition other
        → HasNoFewer monitor placed condition other (broadcasts_on monitor counted condition)
    pub first : (earlier : ℕ) → 1 ≤ earlier → earlier < row
        → HasNoFewer monitor placed condition earlier (broadcasts_on monitor counted condition + 1)

-- so is the row that the table names of each condition that it counts
abbrev pub NamesBestRows : MonitorParts → Plan → Plan → List (Option Column) → Type 0
NamesBestRows monitor placed counted columns =
    (condition : ℕ) (column : Column) → IsConditionNumber monitor condition
    → column_at columns condition ≡ Some column
    → IsBestRow monitor placed counted condition column.row
