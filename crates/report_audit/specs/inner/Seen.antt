-- For private contracts: what is seen of a plan without a proof.
use Rattle.std.specs.Prelude.{◌≡◌, ◌==◌, ℕ, ◌-◌, ◌<◌, ◌≤◌, Bool, true, false, not, ◌&&◌, ◌||◌, List}
use Rattle.std.specs.Prelude.{All, Option, Some, None, slice_get, take, IsSomeAnd}
use Rattle.lang_monitor.specs.declared.candidate.Candidate.{Candidate}
use Rattle.lang_monitor.specs.MonitorParts.{MonitorParts}
use Rattle.lang_monitor.specs.Triples.{HoldAtStart, IsFalseAtStart}
use Rattle.machine_events.specs.declared.plan.Note.{Note}
use Rattle.machine_events.specs.declared.plan.Plan.{Plan}
use Rattle.logic_wp.specs.PlainClaims.{IsConditionNumber}
use Rattle.plan_claims.specs.Backing.{reads_none}
use Rattle.plan_place.specs.Relayed.{is_broadcast}
use Rattle.report_audit.specs.Findings.{IsSuited}

-- ---- the start

-- the candidate at this place is the first that is false at some start; none is
abbrev pub IsFalseAt : MonitorParts → List Candidate → Option ℕ → Type 0
IsFalseAt monitor kept None = HoldAtStart monitor kept
IsFalseAt monitor kept (Some place) =
    IsSomeAnd (slice_get kept place) (IsFalseAtStart monitor)
    × HoldAtStart monitor (take place kept)

-- ---- conditions

-- a note suits a condition, if it is on it: which reads no inputs, or some, and is of kind
-- broadcast, or of kind signal
abbrev pub suits_on : ℕ → Bool → Bool → Note → Bool
suits_on condition none wide note =
    not (note.condition == condition) || ((note.all || not wide) && (not note.tested || none))

abbrev pub AreNotesSuited : ℕ → Bool → Bool → List Note → Type 0
AreNotesSuited condition none wide notes =
    All (λ note. suits_on condition none wide note ≡ true) notes

abbrev pub AreListsSuited : ℕ → Bool → Bool → List (List Note) → Type 0
AreListsSuited condition none wide lists = All (AreNotesSuited condition none wide) lists

-- the condition is of kind broadcast
abbrev pub is_wide : Plan → ℕ → Bool
is_wide plan condition = is_broadcast (slice_get plan.kinds (condition - 1))

-- the kind of a condition and the notes on it suit it, as tests
abbrev pub SuitsAs : MonitorParts → Plan → ℕ → Type 0
SuitsAs monitor plan condition =
    ((reads_none monitor condition || is_wide plan condition) ≡ true)
    × AreListsSuited condition (reads_none monitor condition) (is_wide plan condition) plan.notes

-- the first condition that isn't suited; each is
abbrev pub IsUnsuitedAt : MonitorParts → Plan → Option ℕ → Type 0
IsUnsuitedAt monitor plan None =
    (number : ℕ) → IsConditionNumber monitor number → IsSuited monitor plan number
IsUnsuitedAt monitor plan (Some number) =
    IsConditionNumber monitor number × (IsSuited monitor plan number → ⊥)
    × ((other : ℕ) → 1 ≤ other → other < number → IsSuited monitor plan other)
