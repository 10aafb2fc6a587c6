-- What every configuration keeps, and that no wake-up is lost.
use Rattle.std.specs.Prelude.{◌≡◌, ◌==◌, ◌⊎◌, ℕ, suc, ◌+◌, ◌<◌, ◌≤◌, Bool, true, false, List}
use Rattle.std.specs.Prelude.{[], ◌∷◌, ◌++◌, length}
use Rattle.std.specs.Prelude.{Option, Some, None}
use Rattle.lang_base.specs.declared.value.Value.{Value}
use Rattle.lang_monitor.specs.MonitorParts.{IsMonitor}
use Rattle.lang_monitor.specs.Candidates.{AllHold}
use Rattle.machine_implicit.specs.Steps.{FitsState}
use Rattle.machine_implicit.specs.Scripted.{FitsScripts, calls_of}
use Rattle.machine_implicit.specs.declared.commit.Commit.{Commit}
use Rattle.machine_implicit.specs.declared.script.Call.{Call}
use Rattle.machine_implicit.specs.declared.place.Place.{Place}
use Rattle.machine_implicit.specs.Places.{call_at, block_at, tries_at, FitsPlace}
use Rattle.machine_implicit.specs.Runs.{IsRun}
use Rattle.machine_events.specs.declared.plan.CondKind.TheVariants as kinds
use Rattle.machine_events.specs.declared.plan.Note.{Note}
use Rattle.machine_events.specs.declared.event.Event.{Event}
use Rattle.machine_events.specs.declared.event.Event.TheVariants as events
use Rattle.machine_events.specs.Plans.{condition_kind, has_note, has_broadcast, FitsPlan}
use Rattle.machine_events.specs.Counts.{Measure, IsCounted, slack, is_free, one_if}
use Rattle.machine_events.specs.declared.event.Stage.{Stage}
use Rattle.machine_events.specs.Configurations.{System, Standing, Configuration, StandsAt}
use Rattle.machine_events.specs.Configurations.{situation_of, guard_of, waited_condition}
use Rattle.machine_events.specs.declared.event.Stage.TheVariants.{Idle, Waiting, Woken}
use Rattle.machine_events.specs.declared.event.Stage.TheVariants.{Inside, Notifying}
use Rattle.machine_events.specs.Events.{IsEvent, commit_at, notes_after}

-- the monitor is one, and the clients' calls and the plan fit it
pub record IsSystem (system : System) : Type 0 where
  pub rule : IsMonitor system.monitor
  pub scripts : FitsScripts system.monitor system.clients
  pub plan : FitsPlan system.monitor system.plan

-- ---- what is kept whatever the plan

-- it has begun the call that it is at
abbrev pub has_begun : Stage (List Note) → Bool
has_begun Idle = false
has_begun (Notifying notes) = false
has_begun stage = true

-- inside or notifying
abbrev pub holds_lock : Stage (List Note) → Bool
holds_lock Inside = true
holds_lock (Notifying notes) = true
holds_lock stage = false

-- the condition on which a client waits or was woken
abbrev pub condition_named : Stage (List Note) → Option ℕ
condition_named (Waiting condition) = Some condition
condition_named (Woken condition) = Some condition
condition_named stage = None

abbrev pub IsSuffix : List Note → List Note → Type 0
IsSuffix rest whole = (taken : List Note) × (taken ++ rest ≡ whole)

-- the client is inside or notifying
abbrev pub IsHeldBy : List Standing → ℕ → Type 0
IsHeldBy standings client =
    (place : Place) × (stage : Stage (List Note)) × StandsAt standings client place stage
    × (holds_lock stage ≡ true)

-- one owner inside: an owner is inside or notifying, and no other client is
pub record HasOneOwner (standings : List Standing) (owner : Option ℕ) : Type 0 where
  pub holds : (client : ℕ) → owner ≡ Some client → IsHeldBy standings client
  pub only : (client : ℕ) (place : Place) (stage : Stage (List Note))
      → StandsAt standings client place stage → holds_lock stage ≡ true → owner ≡ Some client

-- the commit is of the block of this number in the monitor
pub record IsBlockNamed (system : System) (commit : Commit) (block : ℕ) : Type 0 where
  pub place : Place
  pub call : Call
  pub at : call_at system.clients commit.client place ≡ Some call
  pub is : commit ≡ commit_at commit.client place commit.reply
  pub numbered : block ≡ block_at system.monitor call place

-- the last commit is the client's, of a block, and these notes are the last of those that come
-- after its reply
pub record AreToCome (system : System) (commits : List Commit) (client : ℕ) (notes : List Note) :
    Type 0 where
  pub earlier : List Commit
  pub block : ℕ
  pub commit : Commit
  pub last : commits ≡ earlier ++ commit ∷ []
  pub own : commit.client ≡ client
  pub named : IsBlockNamed system commit block
  pub rest : IsSuffix notes (notes_after system block commit.reply)

pub record IsSound (system : System) (c : Configuration) : Type 0 where
  -- the commits are a run to the state and the clients' places
  pub run : IsRun system.monitor system.clients c.commits (situation_of c)
  pub fits : FitsState system.monitor c.state
  pub one_each : length c.standings ≡ length system.clients
  pub places : (client : ℕ) (place : Place) (stage : Stage (List Note))
      → StandsAt c.standings client place stage
      → FitsPlace system.monitor system.clients client place
  -- a client that has begun a call has it left
  pub begun : (client : ℕ) (place : Place) (stage : Stage (List Note))
      → StandsAt c.standings client place stage → has_begun stage ≡ true
      → place.past < length (calls_of system.clients client)
  pub lock : HasOneOwner c.standings c.owner
  pub notes : (client : ℕ) (place : Place) (notes : List Note)
      → StandsAt c.standings client place (Notifying notes)
      → AreToCome system c.commits client notes
  -- who waits or was woken is at its block's condition, and not at the first block of a call that
  -- tries
  pub waits : (client : ℕ) (place : Place) (stage : Stage (List Note)) (condition : ℕ)
      → StandsAt c.standings client place stage → condition_named stage ≡ Some condition
      → (condition ≡ waited_condition system client place)
      × (tries_at system.clients client place ≡ false)

-- ---- what is kept under a lawful plan

-- some client stands there, and this is true of it
abbrev pub SomeStands : List Standing → (ℕ → Place → Stage (List Note) → Bool) → Type 0
SomeStands standings test =
    (client : ℕ) × (place : Place) × (stage : Stage (List Note))
    × StandsAt standings client place stage × (test client place stage ≡ true)

-- a broadcast on the condition is to come
abbrev pub announces : Stage (List Note) → ℕ → Bool
announces (Notifying notes) condition = has_broadcast notes condition
announces stage condition = false

-- it was woken on the condition, or is inside at a block of the condition, or has a note on it to
-- come
abbrev pub sees_to : System → ℕ → Place → Stage (List Note) → ℕ → Bool
sees_to system client place (Woken other) condition = other == condition
sees_to system client place Inside condition = waited_condition system client place == condition
sees_to system client place (Notifying notes) condition = has_note notes condition
sees_to system client place stage condition = false

-- how many clients pass a test, the first of which has this number
abbrev pub how_many : (ℕ → Standing → Bool) → ℕ → List Standing → ℕ
how_many test client [] = 0
how_many test client (standing ∷ more) =
    one_if (test client standing) + how_many test (suc client) more

-- how many see to a condition
abbrev pub seeing : System → ℕ → List Standing → ℕ
seeing system condition standings =
    how_many (λ client standing. sees_to system client standing.place standing.stage condition) 0
    standings

-- those that may pass are not any number, and no more than see to the condition
pub record IsEnough (system : System) (state : List Value) (standings : List Standing)
    (condition : ℕ) (measure : Measure) : Type 0 where
  pub bounded : is_free system.monitor measure state condition ≡ false
  pub many : slack system.monitor measure state condition ≤ seeing system condition standings

-- where a client waits on a condition of kind broadcast whose guard is true, one that holds the
-- lock has a broadcast on it to come
abbrev pub AreAnnounced : System → List Value → List Standing → Type 0
AreAnnounced system state standings =
    (client : ℕ) (place : Place) (condition : ℕ)
    → StandsAt standings client place (Waiting condition)
    → condition_kind system.plan condition ≡ Some kinds.Broadcast
    → guard_of system state client place ≡ true
    → SomeStands standings (λ other others_place stage. announces stage condition)

-- where a client waits on a condition of kind signal that is counted, a broadcast on it is to come,
-- or as many see to it as may pass
abbrev pub AreCounted : System → List Value → List Standing → Type 0
AreCounted system state standings =
    (client : ℕ) (place : Place) (condition : ℕ)
    → StandsAt standings client place (Waiting condition)
    → condition_kind system.plan condition ≡ Some kinds.Signal
    → (measure : Measure) → IsCounted system.monitor system.plan condition measure
    → SomeStands standings (λ other others_place stage. announces stage condition)
    ⊎ IsEnough system state standings condition measure

-- where a client waits whose guard is true, its wake-up is on its way
pub record IsPending (system : System) (state : List Value) (standings : List Standing) : Type 0
  where
    pub broadcasts : AreAnnounced system state standings
    pub signals : AreCounted system state standings

pub record IsCovered (system : System) (c : Configuration) : Type 0 where
  -- the kept candidates hold
  pub invariant : AllHold c.state system.plan.kept
  pub pending : IsPending system c.state c.standings

-- ---- no wake-up is lost

-- where no one owns the lock and a client waits whose guard is true, some client is woken on its
-- condition
abbrev pub WakePending : System → Configuration → Type 0
WakePending system c =
    c.owner ≡ None → (client : ℕ) (place : Place) (condition : ℕ)
    → StandsAt c.standings client place (Waiting condition)
    → guard_of system c.state client place ≡ true
    → (other : ℕ) × (others_place : Place)
    × StandsAt c.standings other others_place (Woken condition)

abbrev pub is_spurious : Event → Bool
is_spurious (events.Spurious client) = true
is_spurious event = false

-- no event is allowed but spurious ones
abbrev pub IsStuck : System → Configuration → Type 0
IsStuck system c =
    (event : Event) (next : Configuration) → IsEvent system event c next → is_spurious event ≡ true
