-- Plans that fit a monitor, and lawful plans.
use Rattle.std.specs.Prelude.{◌≡◌, ◌==◌, ◌⊎◌, ℕ, ◌+◌, ◌-◌, ◌<◌, ◌≤◌, Bool, true, false, ◌&&◌, List}
use Rattle.std.specs.Prelude.{[], ◌∷◌, map, length, All, Option, Some, slice_get, unwrap_or}
use Rattle.std.specs.Prelude.{IsSomeAnd}
use Rattle.std.specs.List.{list_any}
use Rattle.lang_monitor.specs.declared.monitor.Block.{Block}
use Rattle.lang_monitor.specs.declared.monitor.Condition.{Condition}
use Rattle.lang_monitor.specs.MonitorParts.{MonitorParts}
use Rattle.lang_monitor.specs.Inputs.{reads_inputs}
pub use Rattle.lang_monitor.specs.Candidates.{AreSomeOf}
use Rattle.lang_monitor.specs.Candidates.{candidates_of}
use Rattle.lang_monitor.specs.Triples.{IsInductive, NoneNeeded, OneEnough}
use Rattle.machine_events.specs.declared.plan.CondKind.{CondKind}
use Rattle.machine_events.specs.declared.plan.CondKind.TheVariants as kinds
use Rattle.machine_events.specs.declared.plan.Note.{Note}
use Rattle.machine_events.specs.declared.plan.Plan.{Plan}
use Rattle.machine_events.specs.Rising.{AreRising}

-- ---- parts of a plan; blocks are numbered from 0, and conditions from 1

-- the notes of a block
abbrev pub notes_at : Plan → ℕ → List Note
notes_at plan block = unwrap_or (slice_get plan.notes block) []

-- the kind of a condition
abbrev pub condition_kind : Plan → ℕ → Option CondKind
condition_kind plan condition = slice_get plan.kinds (condition - 1)

-- some note is on the condition
abbrev pub has_note : List Note → ℕ → Bool
has_note notes condition = list_any (λ note. note.condition == condition) notes

-- some note is a broadcast on the condition
abbrev pub has_broadcast : List Note → ℕ → Bool
has_broadcast notes condition = list_any (λ note. note.condition == condition && note.all) notes

-- the monitor has this condition, under this number
pub record IsCondition (monitor : MonitorParts) (number : ℕ) (condition : Condition) : Type 0 where
  pub numbered : 1 ≤ number
  pub there : slice_get monitor.conditions (number - 1) ≡ Some condition

-- ---- plans that fit a monitor

-- a note is on a condition that there is, and a tested one on a condition whose guard reads no
-- inputs
abbrev pub FitsNote : MonitorParts → Note → Type 0
FitsNote monitor note = (1 ≤ note.condition)
    × IsSomeAnd (slice_get monitor.conditions (note.condition - 1)) (λ which. note.tested ≡ true
    → reads_inputs which.guard ≡ false)

-- the notes of a block
pub record FitsNotes (monitor : MonitorParts) (notes : List Note) : Type 0 where
  pub rising : AreRising notes
  pub each : All (FitsNote monitor) notes

-- Kept candidates are the monitor's, in their order, each at most once; each condition has a kind,
-- and each block notes.
pub record FitsPlan (monitor : MonitorParts) (plan : Plan) : Type 0 where
  pub kept : AreSomeOf plan.kept (candidates_of monitor)
  pub kinds : length plan.kinds ≡ length monitor.conditions
  pub notes : length plan.notes ≡ length monitor.blocks
  pub each : All (FitsNotes monitor) plan.notes

-- ---- lawful plans

-- each note on the condition, of any block
abbrev pub EachNoteOn : Plan → ℕ → (Note → Type 0) → Type 0
EachNoteOn plan condition P =
    (block : ℕ) → All (λ note. note.condition ≡ condition → P note) (notes_at plan block)

pub record IsUntestedBroadcast (note : Note) : Type 0 where
  pub all : note.all ≡ true
  pub untested : note.tested ≡ false

-- of kind broadcast, with untested broadcasts alone
pub record WakesAll (plan : Plan) (condition : ℕ) : Type 0 where
  pub kind : condition_kind plan condition ≡ Some kinds.Broadcast
  pub notes : EachNoteOn plan condition IsUntestedBroadcast

pub record IsLawful (monitor : MonitorParts) (plan : Plan) : Type 0 where
  pub inductive : IsInductive monitor plan.kept
  -- a pair of block and condition without a note needs none
  pub noted : (block condition : ℕ) → block < length monitor.blocks → 1 ≤ condition
      → condition ≤ length monitor.conditions
      → has_note (notes_at plan block) condition ≡ false
      → NoneNeeded monitor plan.kept block condition
  -- a condition whose guard reads inputs is of kind broadcast, and has only untested broadcasts
  pub reading : (number : ℕ) (condition : Condition) → IsCondition monitor number condition
      → reads_inputs condition.guard ≡ true → WakesAll plan number
  -- a condition of kind broadcast has only broadcasts
  pub broadcasts : (condition : ℕ) → condition_kind plan condition ≡ Some kinds.Broadcast
      → EachNoteOn plan condition (λ note. note.all ≡ true)
  -- after a block of a condition of kind signal its guard is false, or the block has a note on it
  pub signals : (number : ℕ) (block : Block) → slice_get monitor.blocks number ≡ Some block
      → 1 ≤ block.condition → condition_kind plan block.condition ≡ Some kinds.Signal
      → OneEnough monitor plan.kept block.condition number
      ⊎ (has_note (notes_at plan number) block.condition ≡ true)

-- ---- the plan under which everyone is woken

-- an untested broadcast on each condition, the first of which has this number
abbrev pub broadcasts_from : ℕ → List Condition → List Note
broadcasts_from number [] = []
broadcasts_from number (condition ∷ conditions) =
    record {
      condition = number;
      all = true;
      tested = false;
    } ∷ broadcasts_from (number + 1) conditions

-- kind broadcast for each condition
abbrev pub all_broadcast : List Condition → List CondKind
all_broadcast conditions = map (λ condition. kinds.Broadcast) conditions

-- for each block an untested broadcast on each condition
abbrev pub broadcasts_of_each : List Block → List Condition → List (List Note)
broadcasts_of_each blocks conditions = map (λ block. broadcasts_from 1 conditions) blocks

-- no candidate is kept, each condition is of kind broadcast, and each block has an untested
-- broadcast on each
abbrev pub everyone : MonitorParts → Plan
everyone monitor = record {
  kept = [];
  kinds = all_broadcast monitor.conditions;
  notes = broadcasts_of_each monitor.blocks monitor.conditions;
}
