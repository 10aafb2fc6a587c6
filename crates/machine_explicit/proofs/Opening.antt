-- The machine at the start.
use Rattle.std.proofs.Common.{◌≡◌, List, [], ◌∷◌, map, None, refl, ap, ◌∙◌}
use Rattle.lang_base.specs.declared.value.Value.{Value}
use Rattle.lang_monitor.specs.MonitorParts.{MonitorParts, IsMonitor}
use Rattle.machine_implicit.specs.declared.commit.Commit.{Commit}
use Rattle.machine_implicit.specs.declared.place.Place.{Place}
use Rattle.machine_implicit.specs.declared.script.Client.{Client}
use Rattle.machine_implicit.specs.Runs.{first_places}
use Rattle.machine_implicit.specs.Steps.{start_of}
use Rattle.machine_implicit.specs.Scripted.{AreClients, FitsScripts}
use Rattle.machine_events.specs.declared.plan.Plan.{Plan}
use Rattle.machine_explicit.specs.declared.position.Position.{Position}
use Rattle.machine_events.specs.Plans.{FitsPlan}
use Rattle.machine_events.specs.Configurations.{System, Standing, idle_at}
use Rattle.machine_events.specs.Pending.{IsSystem}
use Rattle.machine_explicit.specs.Machines.{IsMachine, opened}
use Rattle.machine_explicit.specs.inner.Positions.{standing_of, machine_of, idle_position}
use Rattle.machine_events.proofs.Sound.{start_is_sound}
use Rattle.machine_events.proofs.Notified.{start_is_covered}

idle_standings : (plan : Plan) (places : List Place) → map (standing_of plan) (map idle_position places) ≡ map idle_at places
idle_standings plan [] = refl
idle_standings plan (place ∷ places) = ap (λ (rest : List Standing). idle_at place ∷ rest) (idle_standings plan places)

pub opened_is : (monitor : MonitorParts) (plan : Plan) (clients : List Client) (state : List Value) (commits : List Commit) (positions : List Position) → state ≡ start_of monitor → commits ≡ []
    → positions ≡ map idle_position (first_places monitor clients 0 clients) → machine_of monitor plan clients state None commits positions ≡ opened monitor plan clients
opened_is monitor plan clients state commits positions start none idle =
    λ i. record {
      system = record { monitor = monitor; plan = plan; clients = clients };
      now = record { state = start i; owner = None; commits = none i; standings = (ap (map (standing_of plan)) idle ∙ idle_standings plan (first_places monitor clients 0 clients)) i };
    }

pub opened_meets : (monitor : MonitorParts) (plan : Plan) (clients : List Client) → IsMonitor monitor → AreClients clients → FitsScripts monitor clients → FitsPlan monitor plan → IsMachine (opened monitor plan clients)
opened_meets monitor plan clients rule few scripts plan_fits =
    let system : System = record { monitor = monitor; plan = plan; clients = clients } in
    let is : IsSystem system = record { rule = rule; scripts = scripts; plan = plan_fits } in
    record { is = is; clients = few; sound = start_is_sound system rule scripts; covered = λ lawful. start_is_covered system (record { is = is; lawful = lawful }) }
