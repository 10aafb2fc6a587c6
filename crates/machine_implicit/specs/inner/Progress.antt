-- A run so far, with what the code keeps of it.
use Rattle.std.specs.Prelude.{◌≡◌, ℕ, ◌-◌, ◌<◌, ◌≤◌, List, Some, None, length, slice_get}
use Rattle.lang_base.specs.declared.value.Value.{Value}
use Rattle.lang_monitor.specs.MonitorParts.{MonitorParts}
use Rattle.machine_implicit.specs.declared.place.Place.{Place}
use Rattle.machine_implicit.specs.declared.script.Client.{Client}
use Rattle.machine_implicit.specs.declared.progress.Progress.{Progress}
use Rattle.machine_implicit.specs.Places.{call_at}
use Rattle.machine_implicit.specs.Scripted.{all_blocks}
use Rattle.machine_implicit.specs.Runs.{Situation, CanAct, Ends, IsRun, FitsSituation}
use Rattle.machine_implicit.specs.Rounds.{IsNextActor, IsRunByRounds, first_asked}

abbrev pub stands_at : List Value → List Place → Situation
stands_at state places = record { state = state; places = places }

-- where it is
abbrev pub now_of : Progress → Situation
now_of run = record { state = run.state; places = run.places.items }

pub record IsProgress (monitor : MonitorParts) (clients : List Client)
    (run : Progress) : Type 0 where
  pub runs : IsRun monitor clients run.history.items (now_of run)
  pub by_rounds : IsRunByRounds monitor clients run.history.items (now_of run)
  pub fits : FitsSituation monitor clients (now_of run)
  pub one_each : length run.places.items ≡ length clients
  pub asks : run.next_asked ≡ first_asked run.history.items
  pub asks_within : run.next_asked ≤ length clients

-- the blocks of all calls, less the commits so far
abbrev pub blocks_left : MonitorParts → List Client → Progress → ℕ
blocks_left monitor clients run = all_blocks monitor clients - length run.history.items

-- the client, where there is one, has no call left
abbrev pub HasNoCall : List Client → Progress → ℕ → Type 0
HasNoCall clients run client =
    (place : Place) → slice_get run.places.items client ≡ Some place
    → call_at clients client place ≡ None

-- ---- who acts next, in a run so far

abbrev pub CanStep : MonitorParts → List Client → Progress → ℕ → Type 0
CanStep monitor clients run client = CanAct monitor clients (now_of run) client

abbrev pub HasEnded : MonitorParts → List Client → Progress → Type 0
HasEnded monitor clients run = Ends monitor clients (now_of run)

abbrev pub StepsNext : MonitorParts → List Client → Progress → ℕ → Type 0
StepsNext monitor clients run client =
    IsNextActor monitor clients run.history.items (now_of run) client

-- no client of a range can act
abbrev pub NoneActs : MonitorParts → List Client → Progress → ℕ → ℕ → Type 0
NoneActs monitor clients run from to =
    (client : ℕ) → from ≤ client → client < to → CanStep monitor clients run client → ⊥

-- the first client of a range that can act
pub record IsFirstActor (monitor : MonitorParts) (clients : List Client) (run : Progress)
    (from to client : ℕ) : Type 0 where
  pub above : from ≤ client
  pub below : client < to
  pub can : CanStep monitor clients run client
  pub before : NoneActs monitor clients run from client
