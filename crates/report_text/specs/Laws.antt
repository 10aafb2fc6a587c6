-- What the law says: the printed bytes name the plan and the log.
use Rattle.std.specs.Prelude.{◌≡◌, ℕ, List, ◌++◌}
use Rattle.lang_monitor.specs.MonitorParts.{MonitorParts, IsMonitor}
use Rattle.machine_implicit.specs.declared.script.Client.{Client}
use Rattle.machine_implicit.specs.Scripted.{AreClients}
use Rattle.machine_events.specs.declared.log.Entry.{Entry}
use Rattle.machine_events.specs.declared.plan.Plan.{Plan}
use Rattle.machine_events.specs.Plans.{FitsPlan}
use Rattle.machine_events.specs.PlanText.{plan_text}
use Rattle.machine_events.specs.Configurations.{System, Configuration, system_under}
use Rattle.machine_events.specs.Logs.{IsLegal}
use Rattle.machine_events.specs.Pending.{IsSystem}
use Rattle.report_text.specs.LogText.{log_text}

-- plans that fit one monitor and have the same text are equal
abbrev pub PlanTextNamesPlan : Type 0
PlanTextNamesPlan =
    (monitor : MonitorParts) (plan other : Plan) → IsMonitor monitor → FitsPlan monitor plan
    → FitsPlan monitor other
    → plan_text monitor plan ≡ plan_text monitor other → plan ≡ other

-- the clients' calls and the plan fit the monitor, the clients have names of their own, and the log
-- is legal
pub record HasLegalLog (system : System) (log : List Entry) (last : Configuration) : Type 0 where
  pub is : IsSystem system
  pub clients : AreClients system.clients
  pub legal : IsLegal system log last

-- the text of the plan, then that of the log, which ended in a configuration
abbrev pub plan_and_log_text : System → List Entry → Configuration → List ℕ
plan_and_log_text system log last = plan_text system.monitor system.plan ++ log_text system log last

-- For one monitor and its clients: where one log is legal under a plan and another under another,
-- and what is printed of both is the same, the plans are equal, and so are the logs.
abbrev pub TextNamesPlanAndLog : Type 0
TextNamesPlanAndLog =
    (monitor : MonitorParts) (clients : List Client) (plan other : Plan) (log others : List Entry)
    (last end : Configuration)
    → HasLegalLog (system_under monitor clients plan) log last
    → HasLegalLog (system_under monitor clients other) others end
    → plan_and_log_text (system_under monitor clients plan) log last
    ≡ plan_and_log_text (system_under monitor clients other) others end
    → (plan ≡ other) × (log ≡ others)
