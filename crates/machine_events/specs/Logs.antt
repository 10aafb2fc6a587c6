-- Sections, legal logs, and where a log may end.
use Rattle.std.specs.Prelude.{◌≡◌, ◌==◌, ◌↔◌, ◌⊎◌, ℕ, ◌+◌, ◌*◌, ◌<◌, ◌≤◌, ◌&&◌, Bool, true, false}
use Rattle.std.specs.Prelude.{nat_le, List, [], ◌∷◌, ◌++◌, length, slice_get, Option, Some, None}
use Rattle.std.specs.Prelude.{IsBitSet, count_by}
use Rattle.lang_base.specs.declared.value.Value.{Value}
use Rattle.machine_implicit.specs.declared.commit.Commit.{Commit}
use Rattle.machine_implicit.specs.declared.commit.Reply.{Reply}
use Rattle.machine_implicit.specs.Scripted.{calls_of, all_blocks}
use Rattle.machine_implicit.specs.declared.place.Place.{Place}
use Rattle.machine_events.specs.declared.event.Event.TheVariants as events
use Rattle.machine_events.specs.declared.log.Outcome.{Outcome}
use Rattle.machine_events.specs.declared.log.Outcome.TheVariants as outcomes
use Rattle.machine_events.specs.declared.log.Entry.{Entry}
use Rattle.machine_events.specs.declared.plan.Note.{Note}
use Rattle.machine_events.specs.declared.event.Stage.{Stage}
use Rattle.machine_events.specs.Configurations.{System, Standing, Configuration, StandsAt}
use Rattle.machine_events.specs.Configurations.{initial}
use Rattle.machine_events.specs.declared.event.Stage.TheVariants.{Idle, Waiting, Woken, Notifying}
use Rattle.machine_events.specs.Events.{IsEvent, Begins, Locks, Waits, Runs, Refuses, Unlocks}
use Rattle.machine_events.specs.Events.{WakesSpuriously}

-- ---- who has waited longest

abbrev pub says_waits : Outcome → Bool
says_waits outcomes.Waits = true
says_waits outcome = false

abbrev pub is_wait_of : ℕ → Entry → Bool
is_wait_of client entry = entry.client == client && says_waits entry.outcome

-- the client's last `waits` entry stands at this place of the log
pub record WaitsSince (log : List Entry) (client place : ℕ) : Type 0 where
  pub entry : Entry
  pub there : slice_get log place ≡ Some entry
  pub waits : is_wait_of client entry ≡ true
  pub last : (later : ℕ) (other : Entry) → place < later → slice_get log later ≡ Some other
      → is_wait_of client other ≡ false

-- each client that waits on the condition has waited since the same place of the log as this one,
-- or since a later one
abbrev pub IsFirstWaiter : List Entry → List Standing → ℕ → ℕ → Type 0
IsFirstWaiter log standings condition client = (place : ℕ) × WaitsSince log client place
    × ((other : ℕ) (others_place : Place)
    → StandsAt standings other others_place (Waiting condition)
    → (later : ℕ) × WaitsSince log other later × (place ≤ later))

-- a client that is named has waited longest in its condition
abbrev pub IsChosen : List Entry → Configuration → Option ℕ → Type 0
IsChosen log c None = Unit {0}
IsChosen log c (Some target) =
    (place : Place) (condition : ℕ) → StandsAt c.standings target place (Waiting condition)
    → IsFirstWaiter log c.standings condition target

-- ---- sections

-- a client makes its notes, one after the other, until none is to come
pub data IsNotified (system : System) (log : List Entry) (client : ℕ) : Configuration
    → Configuration → Type 0 where
  all_made : (c : Configuration) (place : Place)
      → StandsAt c.standings client place (Notifying []) → IsNotified system log client c c
  one_made : (c next last : Configuration) (target : Option ℕ) → IsChosen log c target
      → IsEvent system (events.Notify client target) c next
      → IsNotified system log client next last → IsNotified system log client c last

-- an idle client begins, and one that was woken goes on
abbrev pub IsBegun : System → ℕ → Place → Configuration → Configuration → Type 0
IsBegun system client place before begun =
    Begins system client place before begun
    ⊎ (((condition : ℕ) × StandsAt before.standings client place (Woken condition))
    × (begun ≡ before))

-- the bits are those of the clients that waited before and are woken after
abbrev pub AreWoken : Configuration → Configuration → ℕ → Type 0
AreWoken before next woken = (client : ℕ) → IsBitSet woken client
    ↔ ((place : Place) × (condition : ℕ)
    × StandsAt before.standings client place (Waiting condition)
    × StandsAt next.standings client place (Woken condition))

-- the entry of a client at a place
abbrev pub entry_at : ℕ → Place → Outcome → Entry
entry_at client place outcome =
    record { client = client; call = place.past + 1; block = place.block + 1; outcome = outcome }

-- a section of a client, after a log, and its entry: it begins or goes on, locks, and then waits,
-- or is refused and unlocks, or runs, makes its notes and unlocks
pub data IsSection (system : System) (log : List Entry) (before : Configuration) : Entry
    → Configuration → Type 0 where
  waited : (client : ℕ) (place : Place) (begun locked next : Configuration)
      → before.owner ≡ None → IsBegun system client place before begun
      → Locks client place begun locked → Waits system client place locked next
      → IsSection system log before (entry_at client place outcomes.Waits) next
  refused : (client : ℕ) (place goes : Place) (reply : Reply) (state : List Value)
      (begun locked ran next : Configuration)
      → before.owner ≡ None → IsBegun system client place before begun
      → Locks client place begun locked
      → Refuses system client place goes reply state locked ran → Unlocks client goes ran next
      → IsSection system log before (entry_at client place (outcomes.Replies reply 0)) next
  replied : (client : ℕ) (place goes : Place) (woken : ℕ) (reply : Reply) (state : List Value)
      (begun locked ran notified next : Configuration)
      → before.owner ≡ None → IsBegun system client place before begun
      → Locks client place begun locked
      → Runs system client place goes reply state locked ran
      → IsNotified system log client ran notified → Unlocks client goes notified next
      → AreWoken before next woken
      → IsSection system log before (entry_at client place (outcomes.Replies reply woken)) next

-- ---- legal logs

-- from the start each entry is that of a section, or of a spurious wake-up at the call and block at
-- which the client waits
pub data IsLegal (system : System) : List Entry → Configuration → Type 0 where
  empty : IsLegal system [] (initial system)
  sectioned : (log : List Entry) (c : Configuration) (entry : Entry) (next : Configuration)
      → IsLegal system log c → IsSection system log c entry next
      → IsLegal system (log ++ entry ∷ []) next
  woken : (log : List Entry) (c : Configuration) (client : ℕ) (place : Place) (condition : ℕ)
      (next : Configuration)
      → IsLegal system log c → WakesSpuriously client place condition c next
      → IsLegal system (log ++ entry_at client place outcomes.Spurious ∷ []) next

-- ---- what a log commits

-- the commit of a block that replied
abbrev pub commits_in : Entry → Outcome → List Commit
commits_in entry (outcomes.Replies reply bits) =
    record {
      client = entry.client;
      call = entry.call;
      block = entry.block;
      reply = reply;
    } ∷ []
commits_in entry outcome = []

-- the replies of a log as commits, in order
abbrev pub commits_of : List Entry → List Commit
commits_of [] = []
commits_of (entry ∷ log) = commits_in entry entry.outcome ++ commits_of log

-- ---- where a log may end

-- it waits, or is idle with no call left
abbrev pub rests : System → ℕ → Place → Stage (List Note) → Bool
rests system client place (Waiting condition) = true
rests system client place Idle = nat_le (length (calls_of system.clients client)) place.past
rests system client place stage = false

pub record IsClosed (system : System) (c : Configuration) : Type 0 where
  pub free : c.owner ≡ None
  pub each : (client : ℕ) (place : Place) (stage : Stage (List Note))
      → StandsAt c.standings client place stage → rests system client place stage ≡ true

-- ---- the bound of a log

abbrev pub says_spurious : Outcome → Bool
says_spurious outcomes.Spurious = true
says_spurious outcome = false

abbrev pub is_spurious_entry : Entry → Bool
is_spurious_entry entry = says_spurious entry.outcome

-- at most so many entries: each section begins a block or uses up a wake, and a commit wakes at
-- most the other clients
abbrev pub IsBounded : System → List Entry → Type 0
IsBounded system log =
    length log ≤ all_blocks system.monitor system.clients * length system.clients
    + 2 * count_by is_spurious_entry log
