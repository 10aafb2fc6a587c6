-- Runs of a monitor by sections, under a plan that is asked for.
use Rattle.std.specs.Prelude.{List}
use Rattle.machine_implicit.specs.Scripted.{AreClients}
use Rattle.machine_implicit.specs.Runs.{IsRun, Ends}
use Rattle.machine_events.specs.declared.log.Entry.{Entry}
use Rattle.machine_events.specs.Configurations.{System, Configuration, situation_of}
use Rattle.machine_events.specs.Logs.{IsLegal, IsClosed, commits_of}
use Rattle.machine_events.specs.Pending.{IsSystem}
use Rattle.front_command.specs.declared.plan_choice.PlanChoice.{PlanChoice}
use Rattle.expresso_answers.specs.Placements.{IsChosen}

-- the log of such a run, and the configuration in which it ended
pub record IsPlacedRun (choice : PlanChoice) (system : System) (log : List Entry)
    (last : Configuration) : Type 0 where
  -- the plan is one that is asked for
  pub chosen : IsChosen choice system.monitor system.plan
  -- the clients' calls and the plan fit the monitor
  pub is : IsSystem system
  -- the clients and their calls are no more than there may be, and their names are distinct
  pub few : AreClients system.clients
  -- the log is legal for the plan, and ends closed
  pub legal : IsLegal system log last
  pub closed : IsClosed system last
  -- the replies are a run to the last state and the clients' places, where no client may step
  pub run : IsRun system.monitor system.clients (commits_of log) (situation_of last)
  pub ends : Ends system.monitor system.clients (situation_of last)
