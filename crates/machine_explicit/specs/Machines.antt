-- What contracts see of the event machine.
use Rattle.std.specs.Prelude.{◌≡◌, ℕ, List, length, Result, MatchResult}
use Rattle.lang_monitor.specs.MonitorParts.{MonitorParts}
use Rattle.machine_implicit.specs.declared.script.Client.{Client}
use Rattle.machine_implicit.specs.Runs.{Ends}
use Rattle.machine_events.specs.declared.plan.Plan.{Plan}
use Rattle.machine_events.specs.declared.event.Event.{Event}
use Rattle.machine_events.specs.declared.plan.Note.{Note}
use Rattle.machine_events.specs.declared.event.Stage.{Stage}
use Rattle.machine_events.specs.Counts.{IsLawfulByCounting}
use Rattle.machine_events.specs.Configurations.{System, Configuration, initial, system_under}
use Rattle.machine_events.specs.Configurations.{situation_of}
use Rattle.machine_events.specs.Stages.{map_stage}
use Rattle.machine_events.specs.Events.{IsEvent}
use Rattle.machine_implicit.specs.Scripted.{AreClients}
use Rattle.machine_events.specs.Pending.{IsSystem, IsSound, IsCovered, WakePending, IsStuck}

-- what it runs, and its configuration now
pub record Machine : Type 0 where
  pub system : System
  pub now : Configuration

-- The rule of every machine: its monitor, plan and calls fit, its clients and calls are no more
-- than there may be, and its configuration keeps what events keep, under a lawful plan that
-- wake-ups are on their way.
pub record IsMachine (machine : Machine) : Type 0 where
  pub is : IsSystem machine.system
  pub clients : AreClients machine.system.clients
  pub sound : IsSound machine.system machine.now
  pub covered : IsLawfulByCounting machine.system.monitor machine.system.plan
      → IsCovered machine.system machine.now

-- no wake-up is lost: one is pending, and where the machine is stuck its run is at its end
pub record LosesNoWakeUp (machine : Machine) : Type 0 where
  pub pending : WakePending machine.system machine.now
  pub ends : IsStuck machine.system machine.now
      → Ends machine.system.monitor machine.system.clients (situation_of machine.now)

-- under a lawful plan, or one that is lawful by counting, no wake-up is lost
abbrev pub KeepsWakeUps : Machine → Type 0
KeepsWakeUps machine =
    IsLawfulByCounting machine.system.monitor machine.system.plan → LosesNoWakeUp machine

-- the machine at the start
abbrev pub opened : MonitorParts → Plan → List Client → Machine
opened monitor plan clients = record {
  system = system_under monitor clients plan;
  now = initial (system_under monitor clients plan);
}

-- the event may not happen now
abbrev pub NotAllowed : Machine → Event → Type 0
NotAllowed machine event =
    (next : Configuration) → IsEvent machine.system event machine.now next → ⊥

-- the event happened, to the same system
abbrev pub Happened : Event → Machine → Machine → Type 0
Happened event before next =
    (next.system ≡ before.system) × IsEvent before.system event before.now next.now

-- the event isn't allowed, and all is as before
abbrev pub Refused : Event → Machine → Machine → Type 0
Refused event before next = (next ≡ before) × NotAllowed before event

-- a step happens, or is refused
abbrev pub Steps : {E : Type 0} → Event → Machine → Machine → Result (Unit {0}) E → Type 0
Steps event before next result =
    MatchResult result (λ _. Happened event before next) (λ _. Refused event before next)

-- a stage as it is shown: with how many notes are to come
abbrev pub shown_stage : Stage (List Note) → Stage ℕ
shown_stage stage = map_stage length stage
