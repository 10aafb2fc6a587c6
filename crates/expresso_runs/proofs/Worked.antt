-- How `run` and `block` end where workers or callers ran the clients.
use Rattle.std.proofs.Common.{◌≡◌, ℕ, Bool, true, false, List, refl, sym, subst, ◌∙◌}
use Rattle.std.proofs.lemmas.Bool.{false≢true}
use Rattle.base_io.specs.Outside.{FilesSeen, SinkSeen}
use Rattle.lang_monitor.specs.MonitorParts.{MonitorParts}
use Rattle.machine_implicit.specs.declared.script.Client.{Client}
use Rattle.machine_events.specs.declared.log.Entry.{Entry}
use Rattle.machine_events.specs.declared.plan.Plan.{Plan}
use Rattle.machine_events.specs.Configurations.{System, Configuration, situation_of}
use Rattle.machine_events.specs.Logs.{IsClosed}
use Rattle.machine_explicit.specs.Sections.{spurious_in}
use Rattle.report_text.specs.LogText.{are_done}
use Rattle.machine_events.specs.Configurations.{system_under}
use Rattle.report_text.specs.Laws.{plan_and_log_text}
use Rattle.front_command.specs.declared.plan_choice.PlanChoice.{PlanChoice}
use Rattle.front_command.specs.CommandLine.{Command, as_clients, block, reads, run, two_files}
use Rattle.expresso_answers.specs.declared.status.Status.{Status}
use Rattle.expresso_answers.specs.PlacedRuns.{IsPlacedRun}
use Rattle.expresso_answers.specs.Answers.{HoldRun, IsDoneText, IsFinishedRunText, IsRunText, IsStalledRunText, IsStalledText, RejectsFiles}
use Rattle.expresso_answers.specs.Ending.{CommandEnds, IsCommandText, IsWritten, ended}
use Rattle.expresso_runs.proofs.Finishing.{done_finished, finished_done}
use Rattle.expresso_answers.proofs.OtherFile.{held_not_rejected}
use Rattle.expresso_answers.proofs.Ending.{work_ended}

module _ (monitor_file clients_file : List ℕ) (choice : PlanChoice) (files files_now : FilesSeen) (monitor : MonitorParts) (plan : Plan) (clients : List Client) (log : List Entry) (last : Configuration) (system : System)
    (held : HoldRun files.held monitor_file clients_file monitor clients) (placed : IsPlacedRun choice (system_under monitor clients plan) log last) (unprompted : spurious_in log ≡ 0) (system_is : system ≡ system_under monitor clients plan) where
  pub worked_closed : IsClosed system last
  worked_closed = subst (λ (s : System). IsClosed s last) (sym system_is) placed.closed

  worked_shown : IsRunText files.held monitor_file clients_file choice clients last (plan_and_log_text (system_under monitor clients plan) log last)
  worked_shown = record { monitor = monitor; plan = plan; log = log; files = held; placed = placed; unprompted = unprompted; printed = refl }

  -- the command prints such runs of these files
  pub record PrintsRuns (command : Command) : Type 0 where
    pub finished : (text : List ℕ) → IsFinishedRunText files.held monitor_file clients_file choice text → IsDoneText files.held command text
    pub stalled : (text : List ℕ) → IsStalledRunText files.held monitor_file clients_file choice text → IsStalledText files.held command text
    pub read : reads command ≡ two_files as_clients monitor_file clients_file

  log_shown : (command : Command) → PrintsRuns command → (finished : Bool) → are_done clients (situation_of last).places ≡ finished
      → IsCommandText command files files_now (ended finished) (plan_and_log_text (system_under monitor clients plan) log last)
  log_shown command prints true end = prints.finished _ (clients, last, worked_shown, done_finished clients (situation_of last) end)
  log_shown command prints false end = prints.stalled _ (clients, last, worked_shown, λ all. false≢true (sym end ∙ finished_done clients (situation_of last) all))

  pub run_ended : (command : Command) → PrintsRuns command → (result : Status) (out out_now : SinkSeen) → files_now.faults ≡ files.faults
      → IsWritten (ended (are_done system.clients (situation_of last).places)) (plan_and_log_text system log last) result out out_now → CommandEnds command files files_now result out out_now
  run_ended command prints result out out_now steady written =
      work_ended command files files_now (plan_and_log_text (system_under monitor clients plan) log last) result out out_now
      (are_done clients (situation_of last).places) (log_shown command prints (are_done clients (situation_of last).places) refl)
      (λ rejects. held_not_rejected files.held monitor_file clients_file monitor clients held (subst (RejectsFiles files.held) prints.read rejects)) steady
      (subst (λ (s : System). IsWritten (ended (are_done s.clients (situation_of last).places)) (plan_and_log_text s log last) result out out_now) system_is written)

  pub worked_ended : (workers : ℕ) (result : Status) (out out_now : SinkSeen) → files_now.faults ≡ files.faults
      → IsWritten (ended (are_done system.clients (situation_of last).places)) (plan_and_log_text system log last) result out out_now
      → CommandEnds (run monitor_file clients_file workers choice) files files_now result out out_now
  worked_ended workers = run_ended (run monitor_file clients_file workers choice) (record { finished = λ text is. is; stalled = λ text is. is; read = refl })

  pub called_ended : (result : Status) (out out_now : SinkSeen) → files_now.faults ≡ files.faults
      → IsWritten (ended (are_done system.clients (situation_of last).places)) (plan_and_log_text system log last) result out out_now
      → CommandEnds (block monitor_file clients_file choice) files files_now result out out_now
  called_ended = run_ended (block monitor_file clients_file choice) (record { finished = λ text is. is; stalled = λ text is. is; read = refl })
