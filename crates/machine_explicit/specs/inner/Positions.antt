-- How the code keeps a configuration.
use Rattle.std.specs.Prelude.{◌≡◌, ◌==◌, ◌⊎◌, Bool, true, false, not, ◌||◌, if◌then◌else◌, ℕ, ◌+◌}
use Rattle.std.specs.Prelude.{◌-◌, ◌≤◌, List, [], ◌∷◌, map, drop, length, slice_get, Option, Some}
use Rattle.lang_base.specs.declared.value.Value.{Value}
use Rattle.lang_monitor.specs.MonitorParts.{MonitorParts}
use Rattle.machine_implicit.specs.declared.commit.Commit.{Commit}
use Rattle.machine_implicit.specs.declared.commit.Reply.{Reply}
use Rattle.machine_implicit.specs.declared.commit.Reply.TheVariants as replies
use Rattle.machine_implicit.specs.declared.place.Place.{Place}
use Rattle.machine_implicit.specs.declared.script.Client.{Client}
use Rattle.machine_implicit.specs.Places.{block_at, IsStep}
use Rattle.machine_implicit.specs.Scripted.{all_blocks}
use Rattle.machine_implicit.specs.Steps.{condition_truth, ReadsNoInputs}
use Rattle.machine_events.specs.declared.plan.Note.{Note}
use Rattle.machine_events.specs.declared.plan.Plan.{Plan}
use Rattle.machine_events.specs.declared.event.Stage.{Stage}
use Rattle.machine_events.specs.declared.event.Stage.TheVariants.{Idle, Entering, Woken}
use Rattle.machine_events.specs.declared.event.Stage.TheVariants.{Notifying}
use Rattle.machine_explicit.specs.declared.position.ToCome.{ToCome}
use Rattle.machine_explicit.specs.declared.position.ToCome.TheVariants as comings
use Rattle.machine_explicit.specs.declared.position.Position.{Position}
use Rattle.machine_explicit.specs.declared.notes.Next.{Next}
use Rattle.machine_events.specs.Plans.{notes_at}
use Rattle.machine_events.specs.Stages.{map_stage}
use Rattle.machine_events.specs.Configurations.{Standing, block_condition}
use Rattle.machine_events.specs.Events.{commit_at, waits_on}
use Rattle.machine_explicit.specs.Machines.{Machine}

-- ---- where clients stand

-- the notes that are to come
abbrev pub coming_notes : Plan → ToCome → List Note
coming_notes plan (comings.Block block from) = drop from (notes_at plan block)
coming_notes plan (comings.Signal condition) =
    record { condition = condition; all = false; tested = false } ∷ []
coming_notes plan comings.Nothing = []

abbrev pub stage_of : Plan → Stage ToCome → Stage (List Note)
stage_of plan stage = map_stage (coming_notes plan) stage

abbrev pub standing_of : Plan → Position → Standing
standing_of plan position =
    record { place = position.place; stage = stage_of plan position.stage }

abbrev pub machine_of : MonitorParts → Plan → List Client → List Value → Option ℕ → List Commit
    → List Position → Machine
machine_of monitor plan clients state owner commits positions = record {
  system = record { monitor = monitor; plan = plan; clients = clients };
  now =
      record {
        state = state;
        owner = owner;
        commits = commits;
        standings = map (standing_of plan) positions;
      };
}

abbrev pub idle_position : Place → Position
idle_position place = record { place = place; stage = Idle }

abbrev pub PositionAt : List Position → ℕ → Place → Stage ToCome → Type 0
PositionAt positions client place stage =
    slice_get positions client ≡ Some (record { place = place; stage = stage })

abbrev pub WantsLockAt : List Position → ℕ → Place → Type 0
WantsLockAt positions client place =
    PositionAt positions client place Entering
    ⊎ ((condition : ℕ) × PositionAt positions client place (Woken condition))

-- there is room for a commit of each block of all calls, and no more
abbrev pub HasRoom : MonitorParts → List Client → ℕ → Type 0
HasRoom monitor clients capacity = capacity ≡ all_blocks monitor clients

-- ---- a step

-- after an overflow a signal on the condition of its block is to come, where that has one
abbrev pub after_overflow : ℕ → ToCome
after_overflow condition = if condition == 0 then comings.Nothing else comings.Signal condition

-- the notes that are to come after the reply of a block
abbrev pub to_come_after : MonitorParts → ℕ → Reply → ToCome
to_come_after monitor block replies.Overflow = after_overflow (block_condition monitor block)
to_come_after monitor block replies.Refused = comings.Nothing
to_come_after monitor block reply = comings.Block block 0

-- a client made its step, and its commit: it is at its next place
pub record HasStepped (monitor : MonitorParts) (clients : List Client) (client : ℕ)
    (state next : List Value) (before after : Position) (commit : Commit) : Type 0 where
  pub step : IsStep monitor clients client before.place state commit.reply next after.place
  pub commits : commit ≡ commit_at client before.place commit.reply
  pub notes : after.stage
      ≡ Notifying (to_come_after monitor (block_at monitor step.call before.place) commit.reply)

-- ---- notes

abbrev pub fires_in : MonitorParts → List Value → Note → Bool
fires_in monitor state note = not note.tested || condition_truth monitor state note.condition

-- the note's condition is one that there is, and reads no inputs
abbrev pub CanTest : MonitorParts → Note → Type 0
CanTest monitor note =
    (1 ≤ note.condition) × ReadsNoInputs (slice_get monitor.conditions (note.condition - 1))

-- the client has no note to come
abbrev pub HasNoNext : Plan → List Position → ℕ → Type 0
HasNoNext plan positions client = (place : Place) (to_come : ToCome)
    → PositionAt positions client place (Notifying to_come) → coming_notes plan to_come ≡ []

-- so many notes of the client are to come
abbrev pub HasNotes : Plan → List Position → ℕ → ℕ → Type 0
HasNotes plan positions client count = (place : Place) (to_come : ToCome)
    → PositionAt positions client place (Notifying to_come)
    → length (coming_notes plan to_come) ≡ count

-- the client has made its notes
pub record HasFinished (plan : Plan) (positions : List Position) (client : ℕ) (place : Place) :
    Type 0 where
  pub to_come : ToCome
  pub at : PositionAt positions client place (Notifying to_come)
  pub none : coming_notes plan to_come ≡ []

-- the first of the notes to come, and those after it; a tested note is one of a block
pub record IsFirstNote (plan : Plan) (to_come : ToCome) (next : Next) : Type 0 where
  pub more : List Note
  pub notes : coming_notes plan to_come ≡ next.note ∷ more
  pub then_more : coming_notes plan next.rest ≡ more
  pub source : next.note.tested ≡ true
      → (block : ℕ) × (from : ℕ) × (slice_get (notes_at plan block) from ≡ Some next.note)

-- the first note to come of a client, and those after it
pub record IsNext (plan : Plan) (positions : List Position) (client : ℕ) (next : Next) : Type 0
  where
    pub place : Place
    pub to_come : ToCome
    pub at : PositionAt positions client place (Notifying to_come)
    pub first : IsFirstNote plan to_come next

-- it is the note of a block that stands there, and those to come after it begin after it
pub record IsNoteOf (plan : Plan) (block from : ℕ) (next : Next) : Type 0 where
  pub note : slice_get (notes_at plan block) from ≡ Some next.note
  pub rest : next.rest ≡ comings.Block block (from + 1)

-- ---- waking

abbrev pub position_waits : ℕ → Position → Bool
position_waits condition position = waits_on condition position.stage

abbrev pub waking_stage : ℕ → Stage ToCome → Stage ToCome
waking_stage condition stage = if waits_on condition stage then Woken condition else stage

abbrev pub waking_position : ℕ → Position → Position
waking_position condition position =
    record { place = position.place; stage = waking_stage condition position.stage }
