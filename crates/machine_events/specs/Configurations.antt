-- Configurations of the explicit machine.
use Rattle.std.specs.Prelude.{◌≡◌, ℕ, Bool, List, [], map, Option, Some, None, slice_get}
use Rattle.std.specs.Prelude.{slice_set}
use Rattle.std.specs.Option.{option_map_or}
use Rattle.lang_base.specs.declared.value.Value.{Value}
use Rattle.lang_monitor.specs.MonitorParts.{MonitorParts}
use Rattle.machine_implicit.specs.declared.commit.Commit.{Commit}
use Rattle.machine_implicit.specs.declared.script.Client.{Client}
use Rattle.machine_implicit.specs.Steps.{start_of}
use Rattle.machine_implicit.specs.declared.place.Place.{Place}
use Rattle.machine_implicit.specs.Places.{call_at, block_at, guard_at}
use Rattle.machine_implicit.specs.Runs.{Situation, start_at}
use Rattle.machine_events.specs.declared.plan.Note.{Note}
use Rattle.machine_events.specs.declared.plan.Plan.{Plan}
use Rattle.machine_events.specs.declared.event.Stage.{Stage}
use Rattle.machine_events.specs.declared.event.Stage.TheVariants.{Idle}

-- what the machine runs: a monitor, a plan for it, and what its clients call
pub record System : Type 0 where
  pub monitor : MonitorParts
  pub plan : Plan
  pub clients : List Client

-- a monitor and its clients, under a plan
abbrev pub system_under : MonitorParts → List Client → Plan → System
system_under monitor clients plan = record { monitor = monitor; plan = plan; clients = clients }

-- a client's place in its script, and its stage there, with the notes that are to come
pub record Standing : Type 0 where
  pub place : Place
  pub stage : Stage (List Note)

pub record Configuration : Type 0 where
  pub state : List Value
  pub owner : Option ℕ
  pub commits : List Commit
  -- one for each client
  pub standings : List Standing

-- a client that is idle at a place
abbrev pub idle_at : Place → Standing
idle_at place = record { place = place; stage = Idle }

-- no owner, no commits, and every client idle at its first place
abbrev pub initial : System → Configuration
initial system = record {
  state = start_of system.monitor;
  owner = None;
  commits = [];
  standings = map idle_at (start_at system.monitor system.clients).places;
}

-- the implicit machine's view: the state, and where the clients are in their scripts
abbrev pub situation_of : Configuration → Situation
situation_of c = record { state = c.state; places = map (λ standing. standing.place) c.standings }

-- the client stands there
abbrev pub StandsAt : List Standing → ℕ → Place → Stage (List Note) → Type 0
StandsAt standings client place stage =
    slice_get standings client ≡ Some (record { place = place; stage = stage })

-- the client stands there from now on
abbrev pub put : List Standing → ℕ → Place → Stage (List Note) → List Standing
put standings client place stage =
    slice_set standings client (record { place = place; stage = stage })

-- ---- the block that a client is at; with no call left its guard is false and its condition 0

-- whether its guard is true in a state, at its inputs
abbrev pub guard_of : System → List Value → ℕ → Place → Bool
guard_of system state client place =
    guard_at system.monitor system.clients state client place

abbrev pub block_condition : MonitorParts → ℕ → ℕ
block_condition monitor block =
    option_map_or (λ one. one.condition) (slice_get monitor.blocks block) 0

-- the condition of its block
abbrev pub waited_condition : System → ℕ → Place → ℕ
waited_condition system client place =
    option_map_or (λ call. block_condition system.monitor (block_at system.monitor call place))
    (call_at system.clients client place) 0
