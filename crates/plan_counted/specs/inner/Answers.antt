-- What is known of the table of a counted plan once the prover has answered.
use Rattle.std.specs.Prelude.{◌≡◌, ◌⊎◌, ℕ, ◌<◌, ◌≤◌, Bool, true, false, List, Option, Some, None}
use Rattle.std.specs.Prelude.{length, All, ◌+◌, ◌==◌, cond, count_by, nat_lt}
use Rattle.std.specs.List.{enumerate_from}
use Rattle.std.specs.Option.{option_map_or}
use Rattle.logic_cert.specs.declared.cert.Cert.{Cert}
use Rattle.lang_monitor.specs.declared.candidate.Candidate.{Candidate}
use Rattle.lang_monitor.specs.MonitorParts.{MonitorParts, IsMonitor}
use Rattle.machine_events.specs.declared.plan.CondKind.TheVariants as kinds
use Rattle.machine_events.specs.declared.plan.Plan.{Plan}
use Rattle.machine_events.specs.Plans.{FitsPlan, IsLawful, condition_kind, has_note, notes_at}
use Rattle.machine_events.specs.Counts.{IsLawfulByCounting}
use Rattle.logic_wp.specs.PlainClaims.{ReadsNone}
use Rattle.plan_claims.specs.Backing.{waits_at}
use Rattle.plan_count.specs.declared.question.Question.{Question}
use Rattle.plan_count.specs.declared.question.Question.TheVariants as questions
use Rattle.plan_count.specs.Questions.{IsSo}
use Rattle.plan_counted.specs.declared.counted.Column.{Column}
use Rattle.plan_counted.specs.declared.counted.Told.{Told}
use Rattle.plan_counted.specs.declared.counted.Told.TheVariants as telling
use Rattle.plan_counted.specs.Counted.{Certifies, HasNoFewer, IsBarred, IsCountedFrom, IsOpen}
use Rattle.plan_counted.specs.Counted.{IsTried, counted_of}

-- ---- one question

abbrev pub IsUnanswered : MonitorParts → List Candidate → Question → Type 0
IsUnanswered monitor kept question = IsSo monitor kept question → IsOpen monitor kept question

-- what a question asks is so, as this certificate shows
pub record IsProved (monitor : MonitorParts) (kept : List Candidate) (question : Question)
    (cert : Cert) : Type 0 where
  pub certified : Certifies monitor kept question cert
  pub so : IsSo monitor kept question

abbrev pub IsAnswerTo : MonitorParts → List Candidate → Question → Option Cert → Type 0
IsAnswerTo monitor kept question (Some cert) = IsProved monitor kept question cert
IsAnswerTo monitor kept question None = IsUnanswered monitor kept question

-- ---- one block

-- a signal is proved to be enough, and a broadcast stands where some question is unanswered
abbrev pub IsOneAnswer : MonitorParts → List Candidate → ℕ → ℕ → ℕ → Told → Type 0
IsOneAnswer monitor kept condition row block (telling.Nothing counts) = ⊥
IsOneAnswer monitor kept condition row block (telling.Signal gives first) =
    IsProved monitor kept (questions.Gives condition row block) gives
    × IsProved monitor kept (questions.First condition row block) first
IsOneAnswer monitor kept condition row block telling.Broadcast =
    IsUnanswered monitor kept (questions.Gives condition row block)
    ⊎ IsUnanswered monitor kept (questions.First condition row block)

-- a note is placed, or it is unanswered whether none is needed
abbrev pub NeedsNote : MonitorParts → List Candidate → ℕ → ℕ → ℕ → Bool → Type 0
NeedsNote monitor kept condition row block is_noted =
    is_noted ≡ false → IsUnanswered monitor kept (questions.Counts condition row block)

-- a note that the block needs, which waits elsewhere
pub record IsNoteAnswer (monitor : MonitorParts) (kept : List Candidate) (condition row block : ℕ)
    (is_noted : Bool) (told : Told) : Type 0 where
  pub other : waits_at monitor condition block ≡ false
  pub needed : NeedsNote monitor kept condition row block is_noted
  pub one : IsOneAnswer monitor kept condition row block told

abbrev pub IsToldOf : MonitorParts → List Candidate → ℕ → ℕ → ℕ → Bool → Told → Type 0
IsToldOf monitor kept condition row block is_noted (telling.Nothing counts) =
    (is_noted ≡ false) × IsProved monitor kept (questions.Counts condition row block) counts
IsToldOf monitor kept condition row block is_noted (telling.Signal gives first) =
    IsNoteAnswer monitor kept condition row block is_noted (telling.Signal gives first)
IsToldOf monitor kept condition row block is_noted telling.Broadcast =
    IsNoteAnswer monitor kept condition row block is_noted telling.Broadcast

-- the block waits at the condition, and needs a note
pub record IsChained (monitor : MonitorParts) (kept : List Candidate) (condition row block : ℕ)
    (is_noted : Bool) : Type 0 where
  pub waits : waits_at monitor condition block ≡ true
  pub needed : NeedsNote monitor kept condition row block is_noted

abbrev pub IsToldAnswer : MonitorParts → List Candidate → ℕ → ℕ → ℕ → Bool → Option Told
    → Type 0
IsToldAnswer monitor kept condition row block is_noted None =
    IsChained monitor kept condition row block is_noted
IsToldAnswer monitor kept condition row block is_noted (Some told) =
    IsToldOf monitor kept condition row block is_noted told

-- ---- one condition

abbrev pub IsToldAt : MonitorParts → Plan → ℕ → ℕ → ℕ × Told → Type 0
IsToldAt monitor plan condition row one =
    IsToldOf monitor plan.kept condition row one.0 (has_note (notes_at plan one.0) condition) one.1

-- what each block has on the condition by a row
pub record AreToldBy (monitor : MonitorParts) (plan : Plan) (condition row : ℕ) (told : List Told) :
    Type 0 where
  pub many : length told ≡ length monitor.blocks
  pub each : All (IsToldAt monitor plan condition row) (enumerate_from 0 told)

abbrev pub IsRowAnswer : MonitorParts → Plan → ℕ → ℕ → Option (List Told) → Type 0
IsRowAnswer monitor plan condition row None = IsBarred monitor plan condition row
IsRowAnswer monitor plan condition row (Some told) = AreToldBy monitor plan condition row told

abbrev pub AreBarredBefore : MonitorParts → Plan → ℕ → ℕ → Type 0
AreBarredBefore monitor plan condition row =
    (earlier : ℕ) → 1 ≤ earlier → earlier < row → IsBarred monitor plan condition earlier

-- ---- the row with the fewest broadcasts

abbrev pub gives_all : Told → Bool
gives_all (telling.Nothing counts) = false
gives_all (telling.Signal gives first) = false
gives_all telling.Broadcast = true

-- how many blocks have a broadcast
abbrev pub broadcasts_told : List Told → ℕ
broadcasts_told told = count_by gives_all told

abbrev pub has_no_broadcast : Option Column → Bool
has_no_broadcast column = option_map_or (λ held. broadcasts_told held.told == 0) column false

-- the second, where it has fewer broadcasts
abbrev pub fewer_of : Column → Column → Column
fewer_of column other =
    cond (nat_lt (broadcasts_told other.told) (broadcasts_told column.told)) other column

-- what was found, or a row by which blocks have this, where it has fewer broadcasts
abbrev pub better_of : Option Column → ℕ → Option (List Told) → Option Column
better_of best row None = best
better_of None row (Some told) = Some (record { row = row; told = told })
better_of (Some column) row (Some told) =
    Some (fewer_of column (record { row = row; told = told }))

-- of the rows before this one none has fewer broadcasts, and each before the column's has more
pub record IsBestOf (monitor : MonitorParts) (plan : Plan) (condition row : ℕ) (column : Column) :
    Type 0 where
  pub tried : IsTried monitor condition column.row
  pub told : AreToldBy monitor plan condition column.row column.told
  pub fewest : (other : ℕ) → 1 ≤ other → other < row
      → HasNoFewer monitor plan condition other (broadcasts_told column.told)
  pub first : (earlier : ℕ) → 1 ≤ earlier → earlier < column.row
      → HasNoFewer monitor plan condition earlier (broadcasts_told column.told + 1)

-- the best of the rows before this one, where not each is barred
abbrev pub IsBestBefore : MonitorParts → Plan → ℕ → ℕ → Option Column → Type 0
IsBestBefore monitor plan condition row None = AreBarredBefore monitor plan condition row
IsBestBefore monitor plan condition row (Some column) =
    IsBestOf monitor plan condition row column

-- ---- all rows

-- a condition that was of kind broadcast and is counted, and what each block has on it
pub record IsColumnOf (monitor : MonitorParts) (plan : Plan) (condition : ℕ) (column : Column) :
    Type 0 where
  pub was : condition_kind plan condition ≡ Some kinds.Broadcast
  pub reads_none : ReadsNone monitor condition
  pub tried : IsTried monitor condition column.row
  pub told : AreToldBy monitor plan condition column.row column.told
  pub fewest : (other : ℕ) → IsTried monitor condition other
      → HasNoFewer monitor plan condition other (broadcasts_told column.told)
  pub first : (earlier : ℕ) → 1 ≤ earlier → earlier < column.row
      → HasNoFewer monitor plan condition earlier (broadcasts_told column.told + 1)

abbrev pub IsColumn : MonitorParts → Plan → ℕ → Option Column → Type 0
IsColumn monitor plan condition (Some column) = IsColumnOf monitor plan condition column
IsColumn monitor plan condition None =
    condition_kind plan condition ≡ Some kinds.Broadcast → (row : ℕ)
    → IsTried monitor condition row → IsBarred monitor plan condition row

-- ---- all conditions

pub record AreColumns (monitor : MonitorParts) (plan : Plan) (columns : List (Option Column)) :
    Type 0 where
  pub many : length columns ≡ length monitor.conditions
  pub each : All (λ one. IsColumn monitor plan one.0 one.1) (enumerate_from 1 columns)

-- ---- what the laws say

abbrev pub AnsweredColumnsFit : Type 0
AnsweredColumnsFit =
    (monitor : MonitorParts) (plan : Plan) (columns : List (Option Column))
    → IsMonitor monitor → FitsPlan monitor plan → AreColumns monitor plan columns
    → FitsPlan monitor (counted_of plan columns)

abbrev pub AnsweredColumnsCount : Type 0
AnsweredColumnsCount =
    (monitor : MonitorParts) (plan : Plan) (columns : List (Option Column))
    → IsMonitor monitor → FitsPlan monitor plan → IsLawful monitor plan
    → AreColumns monitor plan columns → IsLawfulByCounting monitor (counted_of plan columns)

abbrev pub AnsweredColumnsLicense : Type 0
AnsweredColumnsLicense =
    (monitor : MonitorParts) (plan : Plan) (columns : List (Option Column))
    → IsMonitor monitor → FitsPlan monitor plan → AreColumns monitor plan columns
    → IsCountedFrom monitor plan (counted_of plan columns)
