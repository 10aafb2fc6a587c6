-- A monitor that runs by sections, and what its calls do.
use Rattle.std.specs.Prelude.{◌≡◌, ◌<◌, ◌≤◌, ◌+◌, ◌*◌, ◌^◌, ◌++◌, ◌∷◌, [], ℕ, Bool, true, false}
use Rattle.std.specs.Prelude.{nat_lt, List, None, Result, MatchResult, length, count_by, slice_get}
use Rattle.std.specs.Option.{option_map_or}
pub use Rattle.lang_base.specs.Limits.{MOST_SPURIOUS}
use Rattle.lang_monitor.specs.MonitorParts.{MonitorParts}
use Rattle.machine_implicit.specs.declared.script.Client.{Client}
use Rattle.machine_implicit.specs.declared.place.Place.{Place}
use Rattle.machine_implicit.specs.Scripted.{all_blocks, calls_of, AreClients}
use Rattle.machine_implicit.specs.Runs.{IsRun, Ends}
use Rattle.machine_events.specs.declared.plan.Plan.{Plan}
use Rattle.machine_events.specs.declared.log.Entry.{Entry}
use Rattle.machine_events.specs.declared.log.Outcome.TheVariants as outcomes
use Rattle.machine_events.specs.Counts.{IsLawfulByCounting}
use Rattle.machine_events.specs.declared.plan.Note.{Note}
use Rattle.machine_events.specs.declared.event.Stage.{Stage}
use Rattle.machine_events.specs.Configurations.{System, Standing, Configuration, StandsAt}
use Rattle.machine_events.specs.Configurations.{initial, situation_of, system_under}
use Rattle.machine_events.specs.declared.event.Stage.TheVariants.{Idle, Waiting, Woken}
use Rattle.machine_events.specs.Events.{WakesSpuriously}
use Rattle.machine_events.specs.Pending.{IsSystem, IsSound, IsCovered, WakePending}
use Rattle.machine_events.specs.Logs.{IsSection, IsLegal, rests, is_spurious_entry, entry_at}
use Rattle.machine_events.specs.Logs.{commits_of}
use Rattle.machine_explicit.specs.declared.section.Section.{Section}
use Rattle.machine_explicit.specs.declared.section.NotReady.{NotReady}
use Rattle.machine_explicit.specs.declared.section.SpuriousFault.{SpuriousFault}
use Rattle.machine_explicit.specs.declared.section.SpuriousFault.TheVariants as faults

-- what it runs, its configuration now, its log so far, and how many spurious entries the log may
-- have
pub record FreeMachine : Type 0 where
  pub system : System
  pub now : Configuration
  pub log : List Entry
  pub extra : ℕ

-- ---- the rule

abbrev pub spurious_in : List Entry → ℕ
spurious_in log = count_by is_spurious_entry log

-- the most entries of its log: the room that is made at the start
abbrev pub room_of : FreeMachine → ℕ
room_of machine =
    all_blocks machine.system.monitor machine.system.clients * length machine.system.clients
    + 2 * machine.extra

-- under a lawful plan, or one that is lawful by counting
abbrev pub HasLawful : System → Type 0
HasLawful system = IsLawfulByCounting system.monitor system.plan

-- The rule of every such monitor: its log is legal and leads to its configuration, in which no one
-- owns the lock.
pub record IsFree (machine : FreeMachine) : Type 0 where
  pub is : IsSystem machine.system
  pub clients : AreClients machine.system.clients
  pub legal : IsLegal machine.system machine.log machine.now
  pub free : machine.now.owner ≡ None
  pub commits : machine.now.commits ≡ commits_of machine.log
  pub spurious : spurious_in machine.log ≤ machine.extra
  pub extra : machine.extra ≤ MOST_SPURIOUS
  pub bounded : length machine.log ≤ room_of machine
  pub covered : HasLawful machine.system → IsCovered machine.system machine.now

-- between sections a client is idle, waits, or was woken
abbrev pub is_between : Stage (List Note) → Bool
is_between Idle = true
is_between (Waiting condition) = true
is_between (Woken condition) = true
is_between stage = false

-- What holds of every such monitor: its rule, what its configuration keeps whatever the plan, where
-- its clients are between sections, that under a lawful plan a wake-up is pending, that the replies
-- of its log and its state are a run, and that its log is short.
pub record HoldsAlways (machine : FreeMachine) : Type 0 where
  pub rule : IsFree machine
  pub sound : IsSound machine.system machine.now
  pub between : (client : ℕ) (place : Place) (stage : Stage (List Note))
      → StandsAt machine.now.standings client place stage → is_between stage ≡ true
  pub pending : HasLawful machine.system → WakePending machine.system machine.now
  pub run : IsRun machine.system.monitor machine.system.clients (commits_of machine.log)
      (situation_of machine.now)
  pub short : length machine.log < 2 ^ 63

-- under a lawful plan no client may step, so no client with a call left has a true guard
abbrev pub HasEnded : FreeMachine → Type 0
HasEnded machine =
    HasLawful machine.system → Ends machine.system.monitor machine.system.clients
    (situation_of machine.now)

-- ---- what the calls do

-- the monitor at the start: its log is empty, and each client is idle at its first place
abbrev pub opened_free : MonitorParts → Plan → List Client → ℕ → FreeMachine
opened_free monitor plan clients extra = record {
  system = system_under monitor clients plan;
  now = initial (system_under monitor clients plan);
  log = [];
  extra = extra;
}

-- the entry was added to the log, and what it runs stays
pub record AddsEntry (before : FreeMachine) (entry : Entry) (next : FreeMachine) : Type 0 where
  pub log : next.log ≡ before.log ++ entry ∷ []
  pub system : next.system ≡ before.system
  pub extra : next.extra ≡ before.extra

-- the client waits, or is idle with no call left
abbrev pub Rests : FreeMachine → ℕ → Type 0
Rests machine client =
    (place : Place) × (stage : Stage (List Note))
    × StandsAt machine.now.standings client place stage
    × (rests machine.system client place stage ≡ true)

-- a client can make a section where it is idle with a call left, or was woken
abbrev pub can_start : System → ℕ → Place → Stage (List Note) → Bool
can_start system client place Idle = nat_lt place.past (length (calls_of system.clients client))
can_start system client place (Woken condition) = true
can_start system client place stage = false

-- whether a client is there and can make a section
abbrev pub is_ready : FreeMachine → ℕ → Bool
is_ready machine client =
    option_map_or (λ standing. can_start machine.system client standing.place standing.stage)
    (slice_get machine.now.standings client) false

-- the client made a section, and its entry is the last of the log now
pub record MadeSection (client : ℕ) (before next : FreeMachine) (section : Section) : Type 0 where
  pub made : IsSection before.system before.log before.now section.entry next.now
  pub whose : section.entry.client ≡ client
  pub place : section.place ≡ length before.log
  pub appends : AddsEntry before section.entry next

-- the client rests, and all is as before
pub record NotMade (client : ℕ) (before next : FreeMachine) (fault : NotReady) : Type 0 where
  pub rests : Rests before client
  pub entries : fault.entries ≡ length before.log
  pub same : next ≡ before

-- a section: it is made exactly where the client was woken, or is idle with a call left
abbrev pub Sections : ℕ → FreeMachine → FreeMachine → Result Section NotReady → Type 0
Sections client before next result =
    MatchResult result (λ section. MadeSection client before next section)
    (λ fault. NotMade client before next fault)

-- the client waits
abbrev pub IsWaiting : List Standing → ℕ → Type 0
IsWaiting standings client =
    (place : Place) × (condition : ℕ) × StandsAt standings client place (Waiting condition)

-- the entry of a client that was woken by nothing, at the call and block at which it waits
abbrev pub spurious_entry : ℕ → Place → Entry
spurious_entry client place = entry_at client place outcomes.Spurious

-- the client was woken by nothing, and the log says so
pub record WokenByNothing (client : ℕ) (before next : FreeMachine) : Type 0 where
  pub place : Place
  pub condition : ℕ
  pub left : spurious_in before.log < before.extra
  pub wakes : WakesSpuriously client place condition before.now next.now
  pub appends : AddsEntry before (spurious_entry client place) next

-- why it isn't: it doesn't wait; or it waits, and the log has all the spurious entries that it may
-- have
abbrev pub IsSpuriousFault : FreeMachine → ℕ → SpuriousFault → Type 0
IsSpuriousFault machine client (faults.NotReady entries) =
    (entries ≡ length machine.log) × (IsWaiting machine.now.standings client → ⊥)
IsSpuriousFault machine client faults.Spent =
    (spurious_in machine.log ≡ machine.extra) × IsWaiting machine.now.standings client

-- it isn't woken, and all is as before
pub record NotWoken (client : ℕ) (before next : FreeMachine) (fault : SpuriousFault) : Type 0 where
  pub why : IsSpuriousFault before client fault
  pub same : next ≡ before

-- a spurious wake-up: it is made exactly where the client waits and an entry is left for it
abbrev pub WakesByNothing : {T : Type 0} → ℕ → FreeMachine → FreeMachine → Result T SpuriousFault
    → Type 0
WakesByNothing client before next result =
    MatchResult result (λ _. WokenByNothing client before next)
    (λ fault. NotWoken client before next fault)
