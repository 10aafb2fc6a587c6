-- How `simulate` ends where the clients were run.
use Rattle.std.proofs.Common.{◌≡◌, ℕ, Bool, true, false, List, refl, sym, subst, ◌∙◌}
use Rattle.std.proofs.lemmas.Bool.{false≢true}
use Rattle.base_io.specs.Outside.{FilesSeen, SinkSeen}
use Rattle.lang_monitor.specs.MonitorParts.{MonitorParts}
use Rattle.machine_implicit.specs.declared.script.Client.{Client}
use Rattle.machine_events.specs.declared.log.Entry.{Entry}
use Rattle.machine_events.specs.declared.plan.Plan.{Plan}
use Rattle.machine_events.specs.Configurations.{System, Configuration, situation_of}
use Rattle.machine_events.specs.Logs.{IsClosed}
use Rattle.report_text.specs.LogText.{are_done}
use Rattle.machine_events.specs.Configurations.{system_under}
use Rattle.report_text.specs.Laws.{plan_and_log_text}
use Rattle.front_command.specs.declared.plan_choice.PlanChoice.{PlanChoice}
use Rattle.front_command.specs.declared.schedule.Schedule.{Schedule}
use Rattle.front_command.specs.CommandLine.{simulate}
use Rattle.expresso_answers.specs.declared.status.Status.{Status}
use Rattle.expresso_answers.specs.Simulations.{IsSimulation}
use Rattle.expresso_answers.specs.Answers.{HoldRun, IsSimulateText}
use Rattle.expresso_answers.specs.Ending.{CommandEnds, IsCommandText, IsWritten, ended}
use Rattle.expresso_runs.proofs.Finishing.{done_finished, finished_done}
use Rattle.expresso_answers.proofs.OtherFile.{held_not_rejected}
use Rattle.expresso_answers.proofs.Ending.{work_ended}

module _ (monitor_file clients_file : List ℕ) (schedule : Schedule) (choice : PlanChoice) (files files_now : FilesSeen) (monitor : MonitorParts) (plan : Plan) (clients : List Client) (log : List Entry) (last : Configuration) (system : System)
    (held : HoldRun files.held monitor_file clients_file monitor clients) (simulation : IsSimulation choice (system_under monitor clients plan) schedule log last) (system_is : system ≡ system_under monitor clients plan) where
  pub simulation_closed : IsClosed system last
  simulation_closed = subst (λ (s : System). IsClosed s last) (sym system_is) simulation.placed.closed

  simulation_shown : IsSimulateText files.held monitor_file clients_file schedule choice clients last (plan_and_log_text (system_under monitor clients plan) log last)
  simulation_shown = record { monitor = monitor; plan = plan; log = log; files = held; simulation = simulation; printed = refl }

  log_shown : (finished : Bool) → are_done clients (situation_of last).places ≡ finished
      → IsCommandText (simulate monitor_file clients_file schedule choice) files files_now (ended finished) (plan_and_log_text (system_under monitor clients plan) log last)
  log_shown true end = (clients, last, simulation_shown, done_finished clients (situation_of last) end)
  log_shown false end = (clients, last, simulation_shown, λ all. false≢true (sym end ∙ finished_done clients (situation_of last) all))

  pub simulation_ended : (result : Status) (out out_now : SinkSeen) → files_now.faults ≡ files.faults
      → IsWritten (ended (are_done system.clients (situation_of last).places)) (plan_and_log_text system log last) result out out_now
      → CommandEnds (simulate monitor_file clients_file schedule choice) files files_now result out out_now
  simulation_ended result out out_now steady written =
      work_ended (simulate monitor_file clients_file schedule choice) files files_now (plan_and_log_text (system_under monitor clients plan) log last) result out out_now
      (are_done clients (situation_of last).places) (log_shown (are_done clients (situation_of last).places) refl)
      (held_not_rejected files.held monitor_file clients_file monitor clients held) steady
      (subst (λ (s : System). IsWritten (ended (are_done s.clients (situation_of last).places)) (plan_and_log_text s log last) result out out_now) system_is written)
