-- Runs of the implicit machine.
use Rattle.std.specs.Prelude.{◌≡◌, ◌+◌, ℕ, true, List, [], ◌∷◌, ◌++◌, Some, None, IsSomeAnd}
use Rattle.std.specs.Prelude.{slice_get, slice_set}
use Rattle.lang_base.specs.declared.value.Value.{Value}
use Rattle.lang_monitor.specs.MonitorParts.{MonitorParts}
use Rattle.machine_implicit.specs.declared.commit.Commit.{Commit}
use Rattle.machine_implicit.specs.declared.script.Client.{Client}
use Rattle.machine_implicit.specs.Steps.{start_of, FitsState}
use Rattle.machine_implicit.specs.declared.place.Place.{Place}
use Rattle.machine_implicit.specs.Places.{call_at, first_place, may_step, IsStep, FitsPlace}

-- a state, and each client's place
pub record Situation : Type 0 where
  pub state : List Value
  pub places : List Place

-- each client at its first place, the first of them with this number
abbrev pub first_places : MonitorParts → List Client → ℕ → List Client → List Place
first_places monitor clients number [] = []
first_places monitor clients number (client ∷ more) =
    first_place monitor clients number 0 ∷ first_places monitor clients (number + 1) more

abbrev pub start_at : MonitorParts → List Client → Situation
start_at monitor clients =
    record { state = start_of monitor; places = first_places monitor clients 0 clients }

-- the client may step
abbrev pub CanAct : MonitorParts → List Client → Situation → ℕ → Type 0
CanAct monitor clients now client =
    IsSomeAnd (slice_get now.places client)
    (λ place. may_step monitor clients now.state client place ≡ true)

-- the commit names the place of its client, and is its step from there to the next situation
pub record IsNextCommit (monitor : MonitorParts) (clients : List Client) (now : Situation)
    (commit : Commit) (next : Situation) : Type 0 where
  pub place : Place
  pub at : slice_get now.places commit.client ≡ Some place
  pub call : commit.call ≡ place.past + 1
  pub block : commit.block ≡ place.block + 1
  pub state : List Value
  pub goes : Place
  pub step : IsStep monitor clients commit.client place now.state commit.reply state goes
  pub becomes : next ≡ record { state = state; places = slice_set now.places commit.client goes }

-- Steps one after the other from the start; MayAct says who may act after a history, in a
-- situation.
pub data IsRunBy (monitor : MonitorParts) (clients : List Client)
    (MayAct : List Commit → Situation → ℕ → Type 0) : List Commit → Situation → Type 0 where
  begun : IsRunBy monitor clients MayAct [] (start_at monitor clients)
  stepped : (history : List Commit) (now : Situation) (commit : Commit) (next : Situation)
      → IsRunBy monitor clients MayAct history now
      → MayAct history now commit.client
      → IsNextCommit monitor clients now commit next
      → IsRunBy monitor clients MayAct (history ++ commit ∷ []) next

-- a run, whoever acts
abbrev pub IsRun : MonitorParts → List Client → List Commit → Situation → Type 0
IsRun monitor clients = IsRunBy monitor clients (λ history now client. Unit {0})

-- no client may step
abbrev pub Ends : MonitorParts → List Client → Situation → Type 0
Ends monitor clients now = (client : ℕ) → CanAct monitor clients now client → ⊥

-- no client has a call left
abbrev pub IsFinished : List Client → Situation → Type 0
IsFinished clients now = (client : ℕ) (place : Place) → slice_get now.places client ≡ Some place
    → call_at clients client place ≡ None

-- the state is one of the monitor, and each client is at a place that there is
pub record FitsSituation (monitor : MonitorParts) (clients : List Client)
    (now : Situation) : Type 0 where
  pub state : FitsState monitor now.state
  pub places : (client : ℕ) (place : Place) → slice_get now.places client ≡ Some place
      → FitsPlace monitor clients client place
