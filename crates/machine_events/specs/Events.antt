-- The seven events of the explicit machine, a rule for each. What a rule does not name stays.
use Rattle.std.specs.Prelude.{◌≡◌, ◌==◌, ◌⊎◌, ℕ, ◌+◌, ◌<◌, Bool, true, false, not, ◌||◌, List, []}
use Rattle.std.specs.Prelude.{◌∷◌, ◌++◌, length, map, Option, Some, None, if◌then◌else◌}
use Rattle.lang_base.specs.declared.value.Value.{Value}
use Rattle.machine_implicit.specs.declared.commit.Reply.{Reply}
use Rattle.machine_implicit.specs.declared.commit.Reply.TheVariants as replies
use Rattle.machine_implicit.specs.declared.commit.Commit.{Commit}
use Rattle.machine_implicit.specs.Steps.{condition_truth}
use Rattle.machine_implicit.specs.Scripted.{calls_of}
use Rattle.machine_implicit.specs.declared.place.Place.{Place}
use Rattle.machine_implicit.specs.Places.{block_at, tries_at, IsStep}
use Rattle.machine_events.specs.Plans.{notes_at}
use Rattle.machine_events.specs.declared.plan.Note.{Note}
use Rattle.machine_events.specs.declared.event.Event.{Event}
use Rattle.machine_events.specs.declared.event.Event.TheVariants as events
use Rattle.machine_events.specs.declared.event.Stage.{Stage}
use Rattle.machine_events.specs.Configurations.{System, Standing}
use Rattle.machine_events.specs.Configurations.{Configuration, StandsAt, put}
use Rattle.machine_events.specs.Configurations.{initial, guard_of}
use Rattle.machine_events.specs.Configurations.{waited_condition, block_condition}
use Rattle.machine_events.specs.declared.event.Stage.TheVariants.{Idle, Entering, Waiting}
use Rattle.machine_events.specs.declared.event.Stage.TheVariants.{Woken, Inside, Notifying}

-- ---- the rules, of a client at a place

-- begin: an idle client with a call left enters
pub record Begins (system : System) (client : ℕ) (place : Place) (before next : Configuration) :
    Type 0 where
  pub idle : StandsAt before.standings client place Idle
  pub left : place.past < length (calls_of system.clients client)
  pub becomes : next ≡ record before { standings = put before.standings client place Entering }

-- a client that enters, or was woken, wants the lock
abbrev pub WantsLock : List Standing → ℕ → Place → Type 0
WantsLock standings client place =
    StandsAt standings client place Entering
    ⊎ ((condition : ℕ) × StandsAt standings client place (Woken condition))

-- lock: where no one owns the lock, a client that wants it takes it
pub record Locks (client : ℕ) (place : Place) (before next : Configuration) : Type 0 where
  pub free : before.owner ≡ None
  pub wants : WantsLock before.standings client place
  pub becomes : next ≡ record before {
    owner = Some client;
    standings = put before.standings client place Inside;
  }

-- a client inside whose guard is false, unless its call tries there, gives the lock back and waits
-- on its block's condition, in one step
pub record Waits (system : System) (client : ℕ) (place : Place) (before next : Configuration) :
    Type 0 where
  pub inside : StandsAt before.standings client place Inside
  pub guard : guard_of system before.state client place ≡ false
  pub patient : tries_at system.clients client place ≡ false
  pub becomes : next ≡ record before {
    owner = None;
    standings = put before.standings client place
        (Waiting (waited_condition system client place));
  }

-- an untested signal on the condition of a block
abbrev pub own_signal : System → ℕ → Note
own_signal system block =
    record { condition = block_condition system.monitor block; all = false; tested = false }

-- that signal, where the block has a condition
abbrev pub own_notes : System → ℕ → List Note
own_notes system block =
    if block_condition system.monitor block == 0 then [] else own_signal system block ∷ []

-- the notes that come after a reply of a block: those of the block, after an overflow the one
-- signal alone, and none after a refusal
abbrev pub notes_after : System → ℕ → Reply → List Note
notes_after system block replies.Overflow = own_notes system block
notes_after system block replies.Refused = []
notes_after system block reply = notes_at system.plan block

-- the commit of a client's reply at a place
abbrev pub commit_at : ℕ → Place → Reply → Commit
commit_at client place reply =
    record { client = client; call = place.past + 1; block = place.block + 1; reply = reply }

-- a client inside makes the implicit step, and the commit of it; it is at its next place, and its
-- notes are to come
pub record StepsInside (system : System) (client : ℕ) (place goes : Place) (reply : Reply)
    (state : List Value) (before next : Configuration) : Type 0 where
  pub inside : StandsAt before.standings client place Inside
  pub step : IsStep system.monitor system.clients client place before.state reply state goes
  pub becomes : next ≡ record before {
    state = state;
    commits = before.commits ++ commit_at client place reply ∷ [];
    standings = put before.standings client goes
        (Notifying (notes_after system (block_at system.monitor step.call place) reply));
  }

-- run: its guard is true
pub record Runs (system : System) (client : ℕ) (place goes : Place) (reply : Reply)
    (state : List Value) (before next : Configuration) : Type 0 where
  pub guard : guard_of system before.state client place ≡ true
  pub steps : StepsInside system client place goes reply state before next

-- its guard is false, and the call is refused: the client stays the owner
pub record Refuses (system : System) (client : ℕ) (place goes : Place) (reply : Reply)
    (state : List Value) (before next : Configuration) : Type 0 where
  pub guard : guard_of system before.state client place ≡ false
  pub steps : StepsInside system client place goes reply state before next

-- wait: at the first block of a call that tries the call is refused, elsewhere the client waits
abbrev pub WaitsOrRefuses : System → ℕ → Place → Configuration → Configuration → Type 0
WaitsOrRefuses system client place before next =
    Waits system client place before next
    ⊎ ((goes : Place) × (reply : Reply) × (state : List Value)
    × Refuses system client place goes reply state before next)

-- ---- whom a note names, and where clients stand after it

-- the note is untested, or its condition's guard is true now
abbrev pub fires : System → List Value → Note → Bool
fires system state note = not note.tested || condition_truth system.monitor state note.condition

-- no client waits on the condition
abbrev pub NoneWaits : List Standing → ℕ → Type 0
NoneWaits standings condition =
    (client : ℕ) (place : Place) → StandsAt standings client place (Waiting condition) → ⊥

abbrev pub waits_on : {N : Type 0} → ℕ → Stage N → Bool
waits_on condition (Waiting other) = other == condition
waits_on condition stage = false

-- a client that waits on the condition is woken
abbrev pub waking : ℕ → Standing → Standing
waking condition standing =
    if waits_on condition standing.stage
    then record { place = standing.place; stage = Woken condition } else standing

abbrev pub wake_all : ℕ → List Standing → List Standing
wake_all condition standings = map (waking condition) standings

-- a signal that fires, where some client waits on its condition, names one of those, which is woken
pub record WakesOne (system : System) (c : Configuration) (note : Note) (target : ℕ)
    (target_place : Place) (woken : List Standing) : Type 0 where
  pub fired : fires system c.state note ≡ true
  pub one : note.all ≡ false
  pub waits : StandsAt c.standings target target_place (Waiting note.condition)
  pub becomes : woken ≡ put c.standings target target_place (Woken note.condition)

-- a broadcast that fires wakes each client that waits on its condition
pub record WakesEach (system : System) (c : Configuration) (note : Note) (woken : List Standing) :
    Type 0 where
  pub fired : fires system c.state note ≡ true
  pub each : note.all ≡ true
  pub becomes : woken ≡ wake_all note.condition c.standings

-- every other note, one that doesn't fire or a signal where no client waits, wakes nobody
pub record WakesNobody (system : System) (c : Configuration) (note : Note) (woken : List Standing) :
    Type 0 where
  pub nobody : (fires system c.state note ≡ false)
      ⊎ ((note.all ≡ false) × NoneWaits c.standings note.condition)
  pub becomes : woken ≡ c.standings

-- only the first of these names a client
abbrev pub Wakes : System → Configuration → Note → Option ℕ → List Standing → Type 0
Wakes system c note None woken = WakesEach system c note woken ⊎ WakesNobody system c note woken
Wakes system c note (Some target) woken =
    (target_place : Place) × WakesOne system c note target target_place woken

-- ---- the other rules

-- notify: the first note to come is taken off, and wakes whom it wakes
pub record Notifies (system : System) (client : ℕ) (place : Place) (target : Option ℕ)
    (before next : Configuration) : Type 0 where
  pub note : Note
  pub more : List Note
  pub woken : List Standing
  pub notifying : StandsAt before.standings client place (Notifying (note ∷ more))
  pub wakes : Wakes system before note target woken
  pub becomes : next ≡ record before { standings = put woken client place (Notifying more) }

-- unlock: a client with no note to come gives the lock back, and is idle
pub record Unlocks (client : ℕ) (place : Place) (before next : Configuration) : Type 0 where
  pub notifying : StandsAt before.standings client place (Notifying [])
  pub becomes : next ≡ record before {
    owner = None;
    standings = put before.standings client place Idle;
  }

-- spurious: a client that waits is woken by nothing
pub record WakesSpuriously (client : ℕ) (place : Place) (condition : ℕ)
    (before next : Configuration) : Type 0 where
  pub waits : StandsAt before.standings client place (Waiting condition)
  pub becomes : next ≡ record before {
    standings = put before.standings client place (Woken condition);
  }

-- ---- events

-- the event is allowed before, and leads to the next configuration
abbrev pub IsEvent : System → Event → Configuration → Configuration → Type 0
IsEvent system (events.Begin client) before next =
    (place : Place) × Begins system client place before next
IsEvent system (events.Lock client) before next =
    (place : Place) × Locks client place before next
IsEvent system (events.Wait client) before next =
    (place : Place) × WaitsOrRefuses system client place before next
IsEvent system (events.Run client) before next =
    (place : Place) × (goes : Place) × (reply : Reply) × (state : List Value)
    × Runs system client place goes reply state before next
IsEvent system (events.Notify client target) before next =
    (place : Place) × Notifies system client place target before next
IsEvent system (events.Unlock client) before next =
    (place : Place) × Unlocks client place before next
IsEvent system (events.Spurious client) before next =
    (place : Place) × (condition : ℕ) × WakesSpuriously client place condition before next

-- the events happen one after the other
abbrev pub Happen : System → List Event → Configuration → Configuration → Type 0
Happen system [] before last = last ≡ before
Happen system (event ∷ more) before last =
    (next : Configuration) × IsEvent system event before next × Happen system more next last

-- they lead from the start to the last configuration
abbrev pub AreEvents : System → List Event → Configuration → Type 0
AreEvents system all last = Happen system all (initial system) last
