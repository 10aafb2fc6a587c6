-- How the code makes a section, and what it keeps of the log.
use Rattle.std.specs.Prelude.{◌≡◌, ◌⊎◌, ◌↔◌, ℕ, ◌<◌, ◌≤◌, Bool, true, false, nat_le, nat_lt, List}
use Rattle.std.specs.Prelude.{[], ◌∷◌, length, get_or, Option, Some, None, slice_get}
use Rattle.std.specs.Prelude.{slice_set as set, IsBitSet, if◌then◌else◌, ◌+◌}
use Rattle.lang_base.specs.Limits.{CLIENTS}
use Rattle.lang_base.specs.declared.value.Value.{Value}
use Rattle.machine_implicit.specs.declared.commit.Reply.{Reply}
use Rattle.machine_implicit.specs.declared.commit.Reply.TheVariants as replies
use Rattle.machine_implicit.specs.declared.place.Place.{Place}
use Rattle.machine_implicit.specs.declared.script.Client.{Client}
use Rattle.machine_implicit.specs.Places.{tries_at}
use Rattle.machine_implicit.specs.Scripted.{calls_of}
use Rattle.machine_events.specs.declared.plan.Note.{Note}
use Rattle.machine_events.specs.declared.event.Event.TheVariants as events
use Rattle.machine_events.specs.declared.log.Entry.{Entry}
use Rattle.machine_events.specs.declared.log.Outcome.{Outcome}
use Rattle.machine_events.specs.declared.log.Outcome.TheVariants as outcomes
use Rattle.machine_events.specs.Plans.{notes_at}
use Rattle.machine_events.specs.declared.event.Stage.{Stage}
use Rattle.machine_events.specs.Configurations.{Standing, Configuration, StandsAt, guard_of}
use Rattle.machine_events.specs.declared.event.Stage.TheVariants.{Idle, Entering, Waiting}
use Rattle.machine_events.specs.declared.event.Stage.TheVariants.{Woken, Inside, Notifying}
use Rattle.machine_events.specs.Events.{Locks, Refuses, Runs, Unlocks, Waits, NoneWaits, fires}
use Rattle.machine_events.specs.Logs.{IsNotified, IsBegun, IsSection, WaitsSince, rests, says_waits}
use Rattle.machine_explicit.specs.Machines.{Machine, Happened}
use Rattle.machine_explicit.specs.Sections.{FreeMachine, HoldsAlways, room_of, spurious_in}
use Rattle.machine_explicit.specs.declared.config.Coming.{Coming}
use Rattle.machine_explicit.specs.declared.config.Way.{Way}
use Rattle.machine_explicit.specs.declared.config.Way.TheVariants as ways
use Rattle.machine_explicit.specs.declared.config.Went.{Went}
use Rattle.machine_explicit.specs.declared.config.Went.TheVariants as wents
use Rattle.machine_explicit.specs.declared.notes.Next.{Next}
use Rattle.machine_explicit.specs.declared.position.ToCome.{ToCome}
use Rattle.machine_explicit.specs.declared.position.Position.{Position}
use Rattle.machine_explicit.specs.inner.Positions.{coming_notes}
use Rattle.machine_explicit.specs.inner.Rings.{AreLines, LinesAfter}

-- ---- the start of a section

abbrev pub NoneEnters : List Standing → Type 0
NoneEnters standings = (client : ℕ) (place : Place) → StandsAt standings client place Entering → ⊥

-- no one owns the lock, and no one enters
pub record IsSettled (c : Configuration) : Type 0 where
  pub free : c.owner ≡ None
  pub none_enters : NoneEnters c.standings

abbrev pub CanStart : Machine → ℕ → Type 0
CanStart machine client =
    ((place : Place) × StandsAt machine.now.standings client place Idle
    × (place.past < length (calls_of machine.system.clients client)))
    ⊎ ((place : Place) × (condition : ℕ)
    × StandsAt machine.now.standings client place (Woken condition))

-- it begins, or goes on, and takes the lock
abbrev pub Started : Machine → ℕ → Machine → Type 0
Started before client next = (next.system ≡ before.system)
    × ((place : Place) × (begun : Configuration)
    × IsBegun before.system client place before.now begun × Locks client place begun next.now)

abbrev pub NotStarted : Machine → ℕ → Machine → Type 0
NotStarted before client next = (next ≡ before) × (CanStart before client → ⊥)

abbrev pub IsInside : Machine → ℕ → Type 0
IsInside machine client = (place : Place) × StandsAt machine.now.standings client place Inside

-- what a client inside may do at its place: it runs where its guard is true, is refused at the
-- first block of a call that tries, and waits elsewhere
abbrev pub IsWay : Machine → ℕ → Place → Way → Type 0
IsWay machine client place ways.Runs =
    guard_of machine.system machine.now.state client place ≡ true
IsWay machine client place ways.GivesUp =
    (guard_of machine.system machine.now.state client place ≡ false)
    × (tries_at machine.system.clients client place ≡ true)
IsWay machine client place ways.Waits =
    (guard_of machine.system machine.now.state client place ≡ false)
    × (tries_at machine.system.clients client place ≡ false)

-- it is inside, and this is what it may do
abbrev pub Goes : Machine → ℕ → Way → Type 0
Goes machine client way =
    (place : Place) × StandsAt machine.now.standings client place Inside
    × IsWay machine client place way

-- it waits on this condition, which is one of the monitor's
abbrev pub WaitsOn : Machine → ℕ → ℕ → Type 0
WaitsOn machine client condition =
    ((place : Place) × StandsAt machine.now.standings client place (Waiting condition))
    × (condition < length machine.system.monitor.conditions + 1)

-- a client inside waited
abbrev pub HasWaited : ℕ → Machine → Machine → Type 0
HasWaited client before next = (next.system ≡ before.system)
    × ((place : Place) × Waits before.system client place before.now next.now)

-- a client inside made its step, with this reply
abbrev pub HasRun : ℕ → Machine → Machine → Reply → Type 0
HasRun client before next reply = (next.system ≡ before.system)
    × ((place : Place) × (goes : Place) × (state : List Value)
    × Runs before.system client place goes reply state before.now next.now)

-- a client inside was refused
abbrev pub WasRefused : ℕ → Machine → Machine → Type 0
WasRefused client before next = (next.system ≡ before.system)
    × ((place : Place) × (goes : Place) × (state : List Value)
    × Refuses before.system client place goes replies.Refused state before.now next.now)

-- a client inside waits on this condition now, made its step, or was refused
abbrev pub WentIn : ℕ → Machine → Machine → Went → Type 0
WentIn client before next (wents.Waits condition) =
    HasWaited client before next × WaitsOn next client condition
    × (length next.now.standings ≤ CLIENTS)
WentIn client before next (wents.Ran reply) = HasRun client before next reply
WentIn client before next wents.GaveUp = WasRefused client before next

-- ---- who waits

-- for each client 0, or one more than the place of its last `waits` entry
pub record KeepsWaits (log : List Entry) (clients : List Client) (since : List ℕ) : Type 0 where
  pub one_each : length since ≡ length clients
  pub each : (client place : ℕ) → client < length since → get_or since client 0 ≡ place + 1
      → WaitsSince log client place

-- of the clients that wait on the condition this is one, and none has waited longer by what is kept
pub record IsFirst (since : List ℕ) (standings : List Standing) (condition target : ℕ) : Type 0
  where
    pub place : Place
    pub waits : StandsAt standings target place (Waiting condition)
    pub within : target < length since
    pub numbered : 0 < get_or since target 0
    pub first : (other : ℕ) (others_place : Place)
        → StandsAt standings other others_place (Waiting condition)
        → (other < length since) × (get_or since target 0 ≤ get_or since other 0)

-- the client waited before, and is woken after
abbrev pub WasWoken : List Standing → List Standing → ℕ → Type 0
WasWoken before next client =
    (place : Place) × (condition : ℕ) × StandsAt before client place (Waiting condition)
    × StandsAt next client place (Woken condition)

-- each client rests
abbrev pub EachRests : Machine → Type 0
EachRests machine =
    (client : ℕ) (place : Place) (stage : Stage (List Note))
    → StandsAt machine.now.standings client place stage
    → rests machine.system client place stage ≡ true

-- the bits of the clients of whom this is true
abbrev pub AreBits : (ℕ → Type 0) → ℕ → Type 0
AreBits P bits = (client : ℕ) → IsBitSet bits client ↔ P client

-- the clients of these bits were woken, and no others: each client that waited waits on or is
-- woken, no other waits, and who was woken before still is
pub record WokeThese (before next : List Standing) (bits : ℕ) : Type 0 where
  pub waited : (client : ℕ) (place : Place) (condition : ℕ)
      → StandsAt next client place (Waiting condition)
      → StandsAt before client place (Waiting condition)
  pub goes : (client : ℕ) (place : Place) (condition : ℕ)
      → StandsAt before client place (Waiting condition)
      → StandsAt next client place (Waiting condition)
      ⊎ StandsAt next client place (Woken condition)
  pub stays : (client : ℕ) (place : Place) (condition : ℕ)
      → StandsAt before client place (Woken condition)
      → StandsAt next client place (Woken condition)
  pub woken : AreBits (λ client. WasWoken before next client) bits

-- ---- notes

-- a note of the client is to come
abbrev pub HasNote : Machine → ℕ → Type 0
HasNote machine client =
    (place : Place) × (note : Note) × (more : List Note)
    × StandsAt machine.now.standings client place (Notifying (note ∷ more))

abbrev pub IsNotifying : Machine → ℕ → Type 0
IsNotifying machine client =
    (place : Place) × (notes : List Note)
    × StandsAt machine.now.standings client place (Notifying notes)

abbrev pub CanUnlock : Machine → ℕ → Type 0
CanUnlock machine client =
    (place : Place) × StandsAt machine.now.standings client place (Notifying [])

-- as many as are to come
abbrev pub CountsNotes : List Standing → ℕ → ℕ → Type 0
CountsNotes standings client count =
    (place : Place) (notes : List Note) → StandsAt standings client place (Notifying notes)
    → length notes ≡ count

-- no note of the client is to come
abbrev pub NoneComes : Machine → ℕ → Type 0
NoneComes machine client =
    (place : Place) (note : Note) (more : List Note)
    → StandsAt machine.now.standings client place (Notifying (note ∷ more)) → ⊥

-- the first note to come of the client, and what it does after it; a tested note is one of a block
pub record IsComing (machine : Machine) (client : ℕ) (next : Next) : Type 0 where
  pub place : Place
  pub more : List Note
  pub at : StandsAt machine.now.standings client place (Notifying (next.note ∷ more))
  pub then_more : coming_notes machine.system.plan next.rest ≡ more
  pub source : next.note.tested ≡ true → (block : ℕ) × (from : ℕ)
      × (slice_get (notes_at machine.system.plan block) from ≡ Some next.note)

-- this note is the first to come, and it fires or not
abbrev pub Comes : Machine → ℕ → Coming → Type 0
Comes machine client coming =
    IsComing machine client coming.next
    × (coming.fires ≡ fires machine.system machine.now.state coming.next.note)

-- the first note to come of the client is this, and it fires
abbrev pub IsFired : Machine → ℕ → Note → Type 0
IsFired machine client note =
    (place : Place) × (more : List Note)
    × StandsAt machine.now.standings client place (Notifying (note ∷ more))
    × (fires machine.system machine.now.state note ≡ true)

-- the first note to come of the client, if there is one, does not fire
abbrev pub IsNotFired : Machine → ℕ → Type 0
IsNotFired machine client =
    (place : Place) (note : Note) (more : List Note)
    → StandsAt machine.now.standings client place (Notifying (note ∷ more))
    → fires machine.system machine.now.state note ≡ false

-- the first note to come of the client wakes nobody: it does not fire, or no one waits on its
-- condition
abbrev pub Passes : Machine → ℕ → Type 0
Passes machine client =
    (place : Place) × (note : Note) × (more : List Note)
    × StandsAt machine.now.standings client place (Notifying (note ∷ more))
    × ((fires machine.system machine.now.state note ≡ false)
    ⊎ NoneWaits machine.now.standings note.condition)

-- it names nobody: it doesn't fire, or is a broadcast, or no one waits
abbrev pub NamesNobody : Machine → Note → Type 0
NamesNobody machine note =
    (fires machine.system machine.now.state note ≡ false)
    ⊎ ((note.all ≡ true) ⊎ NoneWaits machine.now.standings note.condition)

-- a signal that fires, and the first that waits
pub record Names (machine : Machine) (since : List ℕ) (note : Note) (target : ℕ) : Type 0 where
  pub fired : fires machine.system machine.now.state note ≡ true
  pub one : note.all ≡ false
  pub first : IsFirst since machine.now.standings note.condition target

abbrev pub IsTarget : List ℕ → Machine → Note → Option ℕ → Type 0
IsTarget since machine note None = NamesNobody machine note
IsTarget since machine note (Some target) = Names machine since note target

-- a client that is named is the first that waits on its condition
abbrev pub IsChosenBy : List ℕ → Machine → Option ℕ → Type 0
IsChosenBy since machine None = Unit {0}
IsChosenBy since machine (Some target) =
    (condition : ℕ) × IsFirst since machine.now.standings condition target

-- a note of the client was made
abbrev pub MadeNote : List ℕ → ℕ → Machine → Machine → Type 0
MadeNote since client before next =
    (target : Option ℕ) × IsChosenBy since before target
    × Happened (events.Notify client target) before next

-- all notes of the client were made
pub record MadeNotes (since : List ℕ) (client : ℕ) (before next : Machine) : Type 0 where
  pub system : next.system ≡ before.system
  pub done : (place : Place) (notes : List Note)
      → StandsAt before.now.standings client place (Notifying notes)
      → StandsAt next.now.standings client place (Notifying [])
  pub notified : (log : List Entry) → KeepsWaits log before.system.clients since
      → IsNotified before.system log client before.now next.now

-- so far notes of the client were made: what follows from now on, follows from before
pub record MadeSome (since : List ℕ) (client : ℕ) (before now : Machine) : Type 0 where
  pub system : now.system ≡ before.system
  pub so_far : (log : List Entry) (last : Configuration)
      → KeepsWaits log before.system.clients since
      → IsNotified before.system log client now.now last
      → IsNotified before.system log client before.now last

-- a note was made, the rings tell who waits after it, and the bits whom it woke
abbrev pub MadeNoteOf : ℕ → Machine → List (List ℕ) → Machine → List (List ℕ) → ℕ → Type 0
MadeNoteOf client before rings next next_rings bits =
    (since : List ℕ) → AreLines since before.system before.now.standings rings
    → MadeNote since client before next × AreLines since next.system next.now.standings next_rings
    × WokeThese before.now.standings next.now.standings bits

-- all notes were made, the rings tell who waits after them, and the bits whom they woke
abbrev pub MadeNotesOf : ℕ → Machine → List (List ℕ) → Machine → List (List ℕ) → ℕ → Type 0
MadeNotesOf client before rings next next_rings bits =
    (since : List ℕ) → AreLines since before.system before.now.standings rings
    → MadeNotes since client before next × AreLines since next.system next.now.standings next_rings
    × WokeThese before.now.standings next.now.standings bits

-- so many of its notes were made, of as many as there are to the end, and they woke the clients of
-- the bits
pub record AreMaking (client : ℕ) (before : Machine) (rings : List (List ℕ)) (now : Machine)
    (rings_now : List (List ℕ)) (count end bits : ℕ) : Type 0 where
  pub some : (since : List ℕ) → AreLines since before.system before.now.standings rings
      → MadeSome since client before now × AreLines since now.system now.now.standings rings_now
      × WokeThese before.now.standings now.now.standings bits
  pub left : (place : Place) (notes : List Note)
      → StandsAt before.now.standings client place (Notifying notes)
      → (rest : List Note) × StandsAt now.now.standings client place (Notifying rest)
      × (length rest + count ≡ end)

-- ---- a section

-- a client inside ran, made its notes, and gave the lock back
pub record HasReplied (since : List ℕ) (client : ℕ) (before next : Machine) (reply : Reply) : Type 0
  where
    pub system : next.system ≡ before.system
    pub place : Place
    pub goes : Place
    pub state : List Value
    pub ran : Configuration
    pub notified : Configuration
    pub runs : Runs before.system client place goes reply state before.now ran
    pub notes : (log : List Entry) → KeepsWaits log before.system.clients since
        → IsNotified before.system log client ran notified
    pub unlocks : Unlocks client goes notified next.now

-- a client inside was refused, and gave the lock back
pub record HasGivenUp (client : ℕ) (before next : Machine) : Type 0 where
  pub system : next.system ≡ before.system
  pub place : Place
  pub goes : Place
  pub state : List Value
  pub ran : Configuration
  pub refuses : Refuses before.system client place goes replies.Refused state before.now ran
  pub unlocks : Unlocks client goes ran next.now

-- what came of a client inside; the bits are those of the clients that waited before and are woken
-- after, none after a refusal
abbrev pub WentOn : List ℕ → ℕ → Machine → Machine → Outcome → Type 0
WentOn since client before next outcomes.Waits = HasWaited client before next
WentOn since client before next (outcomes.Replies reply woken) =
    (HasReplied since client before next reply
    × AreBits (λ other. WasWoken before.now.standings next.now.standings other) woken)
    ⊎ (HasGivenUp client before next × (reply ≡ replies.Refused) × (woken ≡ 0))
WentOn since client before next outcomes.Spurious = ⊥

pub record MakesSection (since : List ℕ) (client : ℕ) (before next : Machine) (entry : Entry) : Type
    0 where
  pub system : next.system ≡ before.system
  pub who : entry.client ≡ client
  pub made : (log : List Entry) → KeepsWaits log before.system.clients since
      → IsSection before.system log before.now entry next.now

-- the section was made, and the rings tell who waits after its entry
abbrev pub MakesSectionOf : ℕ → Machine → List (List ℕ) → Machine → List (List ℕ) → Entry → Type 0
MakesSectionOf client before rings next next_rings entry =
    (since : List ℕ) → AreLines since before.system before.now.standings rings
    → MakesSection since client before next entry
    × LinesAfter since next.system next.now.standings client entry.outcome next_rings

-- what came of a client inside, and the rings tell who waits after it
abbrev pub WentOnOf : ℕ → Machine → List (List ℕ) → Machine → List (List ℕ) → Outcome → Type 0
WentOnOf client before rings next next_rings outcome =
    (since : List ℕ) → AreLines since before.system before.now.standings rings
    → WentOn since client before next outcome
    × LinesAfter since next.system next.now.standings client outcome next_rings

-- ---- the same of positions, of the first so many clients

abbrev pub stage_rests : List Client → ℕ → Place → Stage ToCome → Bool
stage_rests clients client place (Waiting condition) = true
stage_rests clients client place Idle = nat_le (length (calls_of clients client)) place.past
stage_rests clients client place stage = false

abbrev pub position_rests : List Client → ℕ → Position → Bool
position_rests clients client one = stage_rests clients client one.place one.stage

abbrev pub AllRest : List Client → List Position → ℕ → Type 0
AllRest clients positions count =
    (client : ℕ) (one : Position) → client < count → slice_get positions client ≡ Some one
    → position_rests clients client one ≡ true

-- ---- the monitor

-- the condition on which a client at this stage waits
abbrev pub stage_condition : {N : Type 0} → Stage N → Option ℕ
stage_condition (Waiting condition) = Some condition
stage_condition stage = None

-- what is kept of who waits, after an entry at this place
abbrev pub since_after : List ℕ → Entry → ℕ → List ℕ
since_after since entry place =
    if says_waits entry.outcome then set since entry.client (place + 1) else since

-- whether a client at this position can make a section
abbrev pub stage_starts : List Client → ℕ → Place → Stage ToCome → Bool
stage_starts clients client place Idle = nat_lt place.past (length (calls_of clients client))
stage_starts clients client place (Woken condition) = true
stage_starts clients client place stage = false

abbrev pub position_starts : List Client → ℕ → Position → Bool
position_starts clients client one = stage_starts clients client one.place one.stage

-- as contracts see it
abbrev pub free_of : Machine → List Entry → ℕ → FreeMachine
free_of machine log extra =
    record { system = machine.system; now = machine.now; log = log; extra = extra }

-- What the code keeps of the log: room for the whole, for each condition the line of the clients
-- that wait on it, by rising place of their last `waits` entries, and how many entries are
-- spurious.
pub record IsKept (machine : FreeMachine) (capacity : ℕ) (rings : List (List ℕ)) (spurious : ℕ) :
    Type 0 where
  pub always : HoldsAlways machine
  pub settled : NoneEnters machine.now.standings
  pub room : room_of machine ≡ capacity
  pub since : List ℕ
  pub waits : KeepsWaits machine.log machine.system.clients since
  pub lines : AreLines since machine.system machine.now.standings rings
  pub counted : spurious ≡ spurious_in machine.log
