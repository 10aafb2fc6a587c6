-- Counted plans: as a placed plan, but conditions of kind broadcast that may be counted by a row of
-- their guards are of kind signal, with a note of a block where its question with no note is open,
-- and a broadcast where those with one signal are: by the row that has the fewest broadcasts.
use Rattle.std.specs.Prelude.{◌≡◌, ◌⊎◌, ℕ, ◌-◌, ◌<◌, ◌≤◌, Bool, true, false, List, map, Option}
use Rattle.std.specs.Prelude.{Some, None, length, All, slice_get, unwrap_or, ◌+◌, count_by}
use Rattle.std.specs.List.{flat_map, enumerate_from, range_with_len}
use Rattle.std.specs.Option.{option_map_or, option_to_list}
use Rattle.logic_cert.specs.declared.cert.Cert.{Cert}
use Rattle.logic_cert.specs.Refutes.{Refutes}
use Rattle.lang_monitor.specs.declared.candidate.Candidate.{Candidate}
use Rattle.lang_monitor.specs.MonitorParts.{MonitorParts}
use Rattle.machine_events.specs.declared.plan.CondKind.{CondKind}
use Rattle.machine_events.specs.declared.plan.CondKind.TheVariants as kinds
use Rattle.machine_events.specs.declared.plan.Note.{Note}
use Rattle.machine_events.specs.declared.plan.Plan.{Plan}
use Rattle.machine_events.specs.Plans.{notes_at, condition_kind}
use Rattle.logic_wp.specs.PlainClaims.{IsBlockNumber, IsConditionNumber, ReadsNone, WaitsAt}
use Rattle.logic_wp.specs.NegatedQueries.{negated_query}
use Rattle.plan_prune.specs.Hardness.{MayStayOpen}
use Rattle.plan_claims.specs.Backing.{block_numbers, waits_at}
use Rattle.plan_place.specs.Relayed.{note_on}
use Rattle.plan_count.specs.declared.question.Question.{Question}
use Rattle.plan_count.specs.declared.question.Question.TheVariants as questions
use Rattle.plan_count.specs.Questions.{question_query, HasRowAt, IsSo}
use Rattle.plan_counted.specs.declared.counted.Column.{Column}
use Rattle.plan_counted.specs.declared.counted.Told.{Told}
use Rattle.plan_counted.specs.declared.counted.Told.TheVariants as telling

-- ---- answers

-- the prover may leave the question open
abbrev pub IsOpen : MonitorParts → List Candidate → Question → Type 0
IsOpen monitor kept question = MayStayOpen monitor (question_query monitor kept question)

-- ---- conditions that may be counted

-- the most rows of a guard that are tried
abbrev pub ROWS_TRIED : ℕ
ROWS_TRIED = 8

-- the guard of the condition has the row, and it is one of the first
pub record IsTried (monitor : MonitorParts) (condition row : ℕ) : Type 0 where
  pub has : HasRowAt monitor condition row
  pub limit : row ≤ ROWS_TRIED

-- the guard reads no inputs, and each block that waits at the condition leaves it counted by this
-- row with no note, and has none
pub record MayCount (monitor : MonitorParts) (plan : Plan) (condition row : ℕ) : Type 0 where
  pub reads_none : ReadsNone monitor condition
  pub unnoted : (block : ℕ) → WaitsAt monitor block condition
      → note_on (notes_at plan block) condition ≡ None
  pub counts : (block : ℕ) → WaitsAt monitor block condition
      → IsSo monitor plan.kept (questions.Counts condition row block)

-- of some block that waits at the condition the prover may leave open whether it counts
pub record HasOpenBlock (monitor : MonitorParts) (plan : Plan) (condition row : ℕ) : Type 0 where
  pub block : ℕ
  pub waits : WaitsAt monitor block condition
  pub may : IsOpen monitor plan.kept (questions.Counts condition row block)

-- by the row the condition may be counted only where a question may stay open
abbrev pub IsBarred : MonitorParts → Plan → ℕ → ℕ → Type 0
IsBarred monitor plan condition row =
    MayCount monitor plan condition row → HasOpenBlock monitor plan condition row

-- ---- how many broadcasts a row costs

-- a note that wakes all clients that wait at its condition
abbrev pub is_for_all : Option Note → Bool
is_for_all note = option_map_or (λ held. held.all) note false

-- how many blocks have a broadcast on the condition
abbrev pub broadcasts_on : MonitorParts → Plan → ℕ → ℕ
broadcasts_on monitor plan condition =
    count_by (λ block. is_for_all (note_on (notes_at plan block) condition)) (block_numbers monitor)

-- By the row the block has no less than a broadcast on the condition: a note is placed, or the
-- question with no note fails or may stay open, and so does one of those with one signal.
pub record WantsBroadcast (monitor : MonitorParts) (placed : Plan) (condition row block : ℕ) :
    Type 0 where
  pub noted : note_on (notes_at placed block) condition ≡ None
      → IsSo monitor placed.kept (questions.Counts condition row block)
      → IsOpen monitor placed.kept (questions.Counts condition row block)
  pub all : IsSo monitor placed.kept (questions.Gives condition row block)
      → IsSo monitor placed.kept (questions.First condition row block)
      → IsOpen monitor placed.kept (questions.Gives condition row block)
      ⊎ IsOpen monitor placed.kept (questions.First condition row block)

-- so many blocks at least want a broadcast by the row
pub record WantBroadcasts (monitor : MonitorParts) (placed : Plan) (condition row many : ℕ) :
    Type 0 where
  pub want : ℕ → Bool
  pub each : (block : ℕ) → IsBlockNumber monitor block → want block ≡ true
      → WantsBroadcast monitor placed condition row block
  pub enough : many ≤ count_by want (block_numbers monitor)

-- by the row the condition is not counted with fewer broadcasts than so many: it is barred, or so
-- many blocks want one
abbrev pub HasNoFewer : MonitorParts → Plan → ℕ → ℕ → ℕ → Type 0
HasNoFewer monitor placed condition row many =
    IsBarred monitor placed condition row ⊎ WantBroadcasts monitor placed condition row many

-- ---- conditions that are left as they were

-- of the same kind, with the same notes; and of kind broadcast, though it may be counted by a row
-- that is tried, only where a query may stay open
pub record IsLeft (monitor : MonitorParts) (placed counted : Plan) (condition : ℕ) : Type 0 where
  pub kind : condition_kind counted condition ≡ condition_kind placed condition
  pub notes : (block : ℕ) → note_on (notes_at counted block) condition
      ≡ note_on (notes_at placed block) condition
  pub uncounted : condition_kind placed condition ≡ Some kinds.Broadcast
      → (row : ℕ) → IsTried monitor condition row → IsBarred monitor placed condition row

-- ---- conditions that are counted

-- no note: none was placed, and the block leaves the condition counted
pub record IsUnnoted (monitor : MonitorParts) (placed : Plan) (condition row block : ℕ) :
    Type 0 where
  pub none : note_on (notes_at placed block) condition ≡ None
  pub counts : IsSo monitor placed.kept (questions.Counts condition row block)

-- a note is tested where the placed one is, and where none was placed
abbrev pub is_tested : Option Note → Bool
is_tested placed = option_map_or (λ note. note.tested) placed true

-- A note of a block that does not wait at the condition: one was placed, or the question with no
-- note may stay open. It is a broadcast only where a question with one signal fails or may stay
-- open.
pub record IsNoted (monitor : MonitorParts) (placed : Plan) (condition row block : ℕ)
    (note : Note) : Type 0 where
  pub on : note.condition ≡ condition
  pub other : waits_at monitor condition block ≡ false
  pub needed : note_on (notes_at placed block) condition ≡ None
      → IsSo monitor placed.kept (questions.Counts condition row block)
      → IsOpen monitor placed.kept (questions.Counts condition row block)
  pub tested : note.tested ≡ is_tested (note_on (notes_at placed block) condition)
  pub gives : note.all ≡ false → IsSo monitor placed.kept (questions.Gives condition row block)
  pub first : note.all ≡ false → IsSo monitor placed.kept (questions.First condition row block)
  pub all : note.all ≡ true → IsSo monitor placed.kept (questions.Gives condition row block)
      → IsSo monitor placed.kept (questions.First condition row block)
      → IsOpen monitor placed.kept (questions.Gives condition row block)
      ⊎ IsOpen monitor placed.kept (questions.First condition row block)

-- what a block has on a counted condition
abbrev pub IsTold : MonitorParts → Plan → ℕ → ℕ → ℕ → Option Note → Type 0
IsTold monitor placed condition row block None = IsUnnoted monitor placed condition row block
IsTold monitor placed condition row block (Some note) =
    IsNoted monitor placed condition row block note

-- Was of kind broadcast, and is of kind signal and counted by a row: by no other that is tried it
-- has fewer broadcasts, and by each earlier one it has more.
pub record IsMadeSignal (monitor : MonitorParts) (placed counted : Plan) (condition : ℕ) : Type 0
  where
    pub was : condition_kind placed condition ≡ Some kinds.Broadcast
    pub kind : condition_kind counted condition ≡ Some kinds.Signal
    pub reads_none : ReadsNone monitor condition
    pub row : ℕ
    pub tried : IsTried monitor condition row
    pub told : (block : ℕ) → IsBlockNumber monitor block
        → IsTold monitor placed condition row block (note_on (notes_at counted block) condition)
    pub fewest : (other : ℕ) → IsTried monitor condition other
        → HasNoFewer monitor placed condition other (broadcasts_on monitor counted condition)
    pub first : (earlier : ℕ) → 1 ≤ earlier → earlier < row
        → HasNoFewer monitor placed condition earlier (broadcasts_on monitor counted condition + 1)

-- ---- plans

-- the placed plan, counted
pub record IsCountedFrom (monitor : MonitorParts) (placed counted : Plan) : Type 0 where
  pub kept : counted.kept ≡ placed.kept
  pub each : (condition : ℕ) → IsConditionNumber monitor condition
      → IsLeft monitor placed counted condition ⊎ IsMadeSignal monitor placed counted condition

-- ---- the plan that a table makes, which says how each counted condition is counted

-- what a block has on a counted condition on which this note, or none, is placed
abbrev pub told_note : ℕ → Told → Option Note → Option Note
told_note condition (telling.Nothing counts) placed = None
told_note condition (telling.Signal gives first) placed =
    Some (record { condition = condition; all = false; tested = is_tested placed })
told_note condition telling.Broadcast placed =
    Some (record { condition = condition; all = true; tested = is_tested placed })

abbrev pub told_by : ℕ → Option Told → Option Note → Option Note
told_by condition None placed = None
told_by condition (Some told) placed = told_note condition told placed

-- what a block has on a condition: the placed note, or what its column says
abbrev pub told_on : ℕ → ℕ → Option Column → Option Note → Option Note
told_on condition block None placed = placed
told_on condition block (Some column) placed =
    told_by condition (slice_get column.told block) placed

-- the column of a condition
abbrev pub column_at : List (Option Column) → ℕ → Option Column
column_at columns condition = unwrap_or (slice_get columns (condition - 1)) None

abbrev pub counted_kind : CondKind → Option Column → CondKind
counted_kind kind None = kind
counted_kind kind (Some column) = kinds.Signal

-- of each condition, the first of which has number 1
abbrev pub counted_kinds : List CondKind → List (Option Column) → List CondKind
counted_kinds all_kinds columns =
    map (λ one. counted_kind one.1 (column_at columns one.0)) (enumerate_from 1 all_kinds)

-- the notes of a block that had these, in rising order of conditions
abbrev pub counted_notes : List (Option Column) → ℕ → List Note → List Note
counted_notes columns block notes =
    flat_map (λ condition. option_to_list
    (told_on condition block (column_at columns condition) (note_on notes condition)))
    (range_with_len 1 (length columns))

-- the plan with what a table says of each counted condition and block
abbrev pub counted_of : Plan → List (Option Column) → Plan
counted_of placed columns = record {
  kept = placed.kept;
  kinds = counted_kinds placed.kinds columns;
  notes = map (λ one. counted_notes columns one.0 one.1) (enumerate_from 0 placed.notes);
}

-- ---- certificates

-- the certificate refutes the negated query of the question
abbrev pub Certifies : MonitorParts → List Candidate → Question → Cert → Type 0
Certifies monitor kept question cert =
    Refutes (negated_query monitor (question_query monitor kept question)) cert

-- what a block has on a condition is certified to be enough
abbrev pub IsBacked : MonitorParts → List Candidate → ℕ → ℕ → ℕ → Told → Type 0
IsBacked monitor kept condition row block (telling.Nothing counts) =
    Certifies monitor kept (questions.Counts condition row block) counts
IsBacked monitor kept condition row block (telling.Signal gives first) =
    Certifies monitor kept (questions.Gives condition row block) gives
    × Certifies monitor kept (questions.First condition row block) first
IsBacked monitor kept condition row block telling.Broadcast = Unit {0}

-- a row of the guard of a condition, which reads no inputs, and what each block of the monitor has
-- on it
pub record IsWholeColumn (monitor : MonitorParts) (kept : List Candidate) (condition : ℕ)
    (column : Column) : Type 0 where
  pub reads_none : ReadsNone monitor condition
  pub has_row : HasRowAt monitor condition column.row
  pub many : length column.told ≡ length monitor.blocks
  pub each : All (λ one. IsBacked monitor kept condition column.row one.0 one.1)
      (enumerate_from 0 column.told)

abbrev pub IsColumnBacked : MonitorParts → List Candidate → ℕ → Option Column → Type 0
IsColumnBacked monitor kept condition None = Unit {0}
IsColumnBacked monitor kept condition (Some column) = IsWholeColumn monitor kept condition column

-- of each condition of the monitor whether it is counted, and what each block then has on it; the
-- first has number 1
pub record AreBacked (monitor : MonitorParts) (plan : Plan) (columns : List (Option Column)) :
    Type 0 where
  pub many : length columns ≡ length monitor.conditions
  pub each : All (λ one. IsColumnBacked monitor plan.kept one.0 one.1) (enumerate_from 1 columns)
