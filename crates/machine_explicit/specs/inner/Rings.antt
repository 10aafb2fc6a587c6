-- Who waits on each condition, in order.
use Rattle.std.specs.Prelude.{◌≡◌, ◌==◌, ℕ, ◌+◌, ◌<◌, ◌≤◌, Bool, not, if◌then◌else◌, List, []}
use Rattle.std.specs.Prelude.{length, get_or, filter, Contains, AllPairs, slice_set as set}
use Rattle.machine_events.specs.declared.log.Outcome.{Outcome}
use Rattle.machine_events.specs.Configurations.{System, Standing, StandsAt}
use Rattle.machine_events.specs.declared.event.Stage.TheVariants.{Waiting}
use Rattle.machine_events.specs.Logs.{says_waits}
use Rattle.machine_implicit.specs.declared.place.Place.{Place}

-- the line of a condition, empty where there is none
abbrev pub line_of : List (List ℕ) → ℕ → List ℕ
line_of rings condition = get_or rings condition []

abbrev pub is_not : ℕ → ℕ → Bool
is_not client other = not (other == client)

abbrev pub without : ℕ → List ℕ → List ℕ
without client line = filter (is_not client) line

-- the line lists exactly the clients that wait on the condition, each once, by rising numbers above
-- 0
pub record IsLine (since : List ℕ) (standings : List Standing) (condition : ℕ) (line : List ℕ) :
    Type 0 where
  pub all : (client : ℕ) (place : Place) → StandsAt standings client place (Waiting condition)
      → Contains line client
  pub only : (client : ℕ) → Contains line client
      → (place : Place) × StandsAt standings client place (Waiting condition)
  pub rising : AllPairs (λ one other. get_or since one 0 < get_or since other 0) line
  pub numbered : (client : ℕ) → Contains line client → 0 < get_or since client 0

-- each condition has its line; the one of 0, which is no condition, is empty
pub record AreLines (since : List ℕ) (system : System) (standings : List Standing)
    (rings : List (List ℕ)) : Type 0 where
  pub one_each : length since ≡ length standings
  pub conditions : length rings ≡ length system.monitor.conditions + 1
  pub each : (condition : ℕ) → IsLine since standings condition (line_of rings condition)

abbrev pub HaveLines : System → List Standing → List (List ℕ) → Type 0
HaveLines system standings rings = (since : List ℕ) × AreLines since system standings rings

-- no number is above the place
abbrev pub AreBefore : List ℕ → ℕ → Type 0
AreBefore since place = (client : ℕ) → get_or since client 0 ≤ place

-- the lines after the client's entry at a place that is later than all
abbrev pub LinesAfter : List ℕ → System → List Standing → ℕ → Outcome → List (List ℕ) → Type 0
LinesAfter since system standings client outcome rings =
    (place : ℕ) → AreBefore since place
    → AreLines (if says_waits outcome then set since client (place + 1)
    else since) system standings rings
