-- Relayed plans: on a condition that reads no inputs one waiter at a time is woken, and each that
-- was woken sees to the next one.
use Rattle.std.specs.Prelude.{◌≡◌, ◌==◌, ℕ, ◌-◌, Bool, true, false, not, ◌&&◌, List, map, Option}
use Rattle.std.specs.Prelude.{Some, None, slice_get, IsBitSet, if◌then◌else◌}
use Rattle.std.specs.List.{find, flat_map, enumerate_from}
use Rattle.std.specs.Option.{option_to_list}
use Rattle.lang_monitor.specs.MonitorParts.{MonitorParts, IsMonitor}
use Rattle.machine_implicit.specs.declared.commit.Reply.{Reply}
use Rattle.machine_implicit.specs.declared.place.Place.{Place}
use Rattle.machine_implicit.specs.declared.script.Client.{Client}
use Rattle.machine_events.specs.declared.log.Entry.{Entry}
use Rattle.machine_events.specs.declared.log.Outcome.TheVariants as outcomes
use Rattle.machine_events.specs.declared.plan.CondKind.{CondKind}
use Rattle.machine_events.specs.declared.plan.CondKind.TheVariants as kinds
use Rattle.machine_events.specs.declared.plan.Note.{Note}
use Rattle.machine_events.specs.declared.plan.Plan.{Plan}
use Rattle.machine_events.specs.Configurations.{Configuration, StandsAt, system_under}
use Rattle.machine_events.specs.declared.event.Stage.TheVariants.{Waiting}
use Rattle.machine_events.specs.Logs.{IsLegal, IsSection}
use Rattle.machine_events.specs.Plans.{FitsPlan, IsLawful, has_note, notes_at}
use Rattle.logic_wp.specs.PlainClaims.{ReadsNone}
use Rattle.plan_claims.specs.Backing.{condition_numbers, reads_none, waits_at}

-- ---- kinds

-- a condition that reads no inputs is of kind signal, and every other of the kind that it had
abbrev pub relayed_kind : MonitorParts → ℕ → CondKind → CondKind
relayed_kind monitor condition kind = if reads_none monitor condition then kinds.Signal else kind

-- of each condition, the first of which has number 1
abbrev pub relayed_kinds : MonitorParts → List CondKind → List CondKind
relayed_kinds monitor all_kinds =
    map (λ one. relayed_kind monitor one.0 one.1) (enumerate_from 1 all_kinds)

-- ---- notes

-- the block's note on the condition
abbrev pub note_on : List Note → ℕ → Option Note
note_on notes condition = find (λ note. note.condition == condition) notes

-- a note on a condition that reads no inputs is a signal; it is tested where it was
abbrev pub relayed_note : MonitorParts → Note → Note
relayed_note monitor note = record {
  condition = note.condition;
  all = note.all && not (reads_none monitor note.condition);
  tested = note.tested;
}

-- a tested signal on the condition
abbrev pub tested_signal : ℕ → Note
tested_signal condition = record { condition = condition; all = false; tested = true }

-- there is such a kind, and it is broadcast
abbrev pub is_broadcast : Option CondKind → Bool
is_broadcast None = false
is_broadcast (Some kinds.Signal) = false
is_broadcast (Some kinds.Broadcast) = true

-- the block waits at the condition, which reads no inputs and was of kind broadcast: whoever was
-- woken there sees to the next one
abbrev pub hands_on : MonitorParts → List CondKind → ℕ → ℕ → Bool
hands_on monitor all_kinds block condition =
    reads_none monitor condition
    && (is_broadcast (slice_get all_kinds (condition - 1)) && waits_at monitor condition block)

-- what a block has on a condition where it had this note there, or none: the note, relayed; where
-- it had none a tested signal, if it has to hand on
abbrev pub relayed_on : MonitorParts → List CondKind → ℕ → ℕ → Option Note → Option Note
relayed_on monitor all_kinds block condition (Some note) = Some (relayed_note monitor note)
relayed_on monitor all_kinds block condition None =
    if hands_on monitor all_kinds block condition then Some (tested_signal condition) else None

-- the notes of a block that had these, in rising order of conditions
abbrev pub relayed_notes : MonitorParts → List CondKind → ℕ → List Note → List Note
relayed_notes monitor all_kinds block notes =
    flat_map (λ condition. option_to_list
    (relayed_on monitor all_kinds block condition (note_on notes condition)))
    (condition_numbers monitor)

-- ---- plans

-- The plan, relayed: each condition that reads no inputs is of kind signal, and each note on it is
-- a signal, tested where it was. Where such a condition was of kind broadcast, each block that
-- waits at it and had no note on it has a tested signal on it.
abbrev pub relay_of : MonitorParts → Plan → Plan
relay_of monitor plan = record {
  kept = plan.kept;
  kinds = relayed_kinds monitor plan.kinds;
  notes = map (λ one. relayed_notes monitor plan.kinds one.0 one.1) (enumerate_from 0 plan.notes);
}

-- ---- what the laws say

-- where a plan fits, so does the relayed one
abbrev pub RelayedPlansFit : Type 0
RelayedPlansFit = (monitor : MonitorParts) (plan : Plan) → IsMonitor monitor
    → FitsPlan monitor plan → FitsPlan monitor (relay_of monitor plan)

-- where a plan that fits is lawful, so is the relayed one
abbrev pub RelayedPlansAreLawful : Type 0
RelayedPlansAreLawful = (monitor : MonitorParts) (plan : Plan) → IsMonitor monitor
    → FitsPlan monitor plan → IsLawful monitor plan → IsLawful monitor (relay_of monitor plan)

-- where a relayed plan leaves a note out, the plan does
abbrev pub RelayedPlansOmitNoMore : Type 0
RelayedPlansOmitNoMore = (monitor : MonitorParts) (plan : Plan) (block condition : ℕ)
    → FitsPlan monitor plan → has_note (notes_at plan block) condition ≡ true
    → has_note (notes_at (relay_of monitor plan) block) condition ≡ true

-- a client that waited on the condition, and whose bit is set
abbrev pub WasWoken : Configuration → ℕ → ℕ → ℕ → Type 0
WasWoken before condition woken client =
    IsBitSet woken client
    × ((place : Place) × StandsAt before.standings client place (Waiting condition))

-- of the clients that waited on the condition the entry says of one at most that it was woken
abbrev pub WakesAtMostOne : Configuration → ℕ → Entry → Type 0
WakesAtMostOne before condition entry =
    (reply : Reply) (woken one other : ℕ) → entry.outcome ≡ outcomes.Replies reply woken
    → WasWoken before condition woken one → WasWoken before condition woken other → one ≡ other

-- under a relayed plan each section that follows a legal log wakes, of the clients that wait on a
-- condition that reads no inputs, one at most
abbrev pub RelayedSectionsWakeOne : Type 0
RelayedSectionsWakeOne =
    (monitor : MonitorParts) (plan : Plan) (clients : List Client) (log : List Entry)
    (before next : Configuration) (entry : Entry) (condition : ℕ)
    → FitsPlan monitor plan → ReadsNone monitor condition
    → IsLegal (system_under monitor clients (relay_of monitor plan)) log before
    → IsSection (system_under monitor clients (relay_of monitor plan)) log before entry next
    → WakesAtMostOne before condition entry
