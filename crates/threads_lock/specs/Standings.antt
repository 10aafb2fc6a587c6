-- How a client stands, as a pass is told.
use Rattle.std.specs.Prelude.{◌≡◌, ◌≤◌, ◌↔◌, ℕ, List, length}
use Rattle.machine_implicit.specs.declared.place.Place.{Place}
use Rattle.machine_implicit.specs.Scripted.{calls_of}
use Rattle.machine_events.specs.declared.plan.Note.{Note}
use Rattle.machine_events.specs.declared.event.Stage.{Stage}
use Rattle.machine_events.specs.Configurations.{StandsAt}
use Rattle.machine_events.specs.Logs.{IsClosed}
use Rattle.machine_explicit.specs.Sections.{FreeMachine, IsWaiting}
use Rattle.threads_lock.specs.declared.standing.Standing.{Standing}
use Rattle.threads_lock.specs.declared.standing.Standing.TheVariants as standings

-- the client is past the last of its calls
abbrev pub HasNoCallLeft : FreeMachine → ℕ → Type 0
HasNoCallLeft machine client =
    (place : Place) × (stage : Stage (List Note))
    × StandsAt machine.now.standings client place stage
    × (length (calls_of machine.system.clients client) ≤ place.past)

-- the client waits
abbrev pub IsWaitingIn : FreeMachine → ℕ → Type 0
IsWaitingIn machine client = IsWaiting machine.now.standings client

-- Which answer comes exactly where: over where the client has no call left, stalled where it waits
-- and the monitor is closed, waits where it waits and the monitor isn't closed, and ready where it
-- has a call left and doesn't wait.
pub record StandsAs (machine : FreeMachine) (client : ℕ) (answer : Standing) : Type 0 where
  pub over : (answer ≡ standings.Over) ↔ HasNoCallLeft machine client
  pub stalled : (answer ≡ standings.Stalled)
      ↔ (IsWaitingIn machine client × IsClosed machine.system machine.now)
  pub waits : (answer ≡ standings.Waits)
      ↔ (IsWaitingIn machine client × (IsClosed machine.system machine.now → ⊥))
  pub ready : (answer ≡ standings.Ready)
      ↔ ((HasNoCallLeft machine client → ⊥) × (IsWaitingIn machine client → ⊥))
