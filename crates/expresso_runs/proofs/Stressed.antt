-- How `stress` ends where the workers ran the large input.
use Rattle.std.proofs.Common.{◌≡◌, ℕ, true, List, refl, sym, subst, ◌∙◌}
use Rattle.base_io.specs.Outside.{FilesSeen, SinkSeen}
use Rattle.lang_monitor.specs.MonitorParts.{MonitorParts}
use Rattle.machine_implicit.specs.declared.script.Client.{Client}
use Rattle.machine_implicit.specs.Runs.{IsFinished}
use Rattle.machine_events.specs.declared.log.Entry.{Entry}
use Rattle.machine_events.specs.declared.plan.Plan.{Plan}
use Rattle.machine_events.specs.Configurations.{System, Configuration, situation_of}
use Rattle.machine_events.specs.Logs.{IsClosed, commits_of}
use Rattle.machine_explicit.specs.Sections.{spurious_in}
use Rattle.report_text.specs.LogText.{are_done}
use Rattle.machine_events.specs.Configurations.{system_under}
use Rattle.report_text.specs.SummaryText.{summary_text}
use Rattle.front_command.specs.declared.plan_choice.PlanChoice.TheVariants.{Placed}
use Rattle.front_command.specs.CommandLine.{stress}
use Rattle.machine_stress.specs.LargeInput.{buffer_of, capacity_of, producers_and_consumers}
use Rattle.expresso_answers.specs.declared.status.Status.{Status}
use Rattle.expresso_answers.specs.PlacedRuns.{IsPlacedRun}
use Rattle.expresso_answers.specs.Answers.{IsStressText}
use Rattle.expresso_answers.specs.Ending.{CommandEnds, IsWritten, ended}
use Rattle.expresso_runs.proofs.Finishing.{finished_done}
use Rattle.expresso_answers.proofs.Ending.{work_ended}
use Rattle.machine_stress.specs.Laws.{EveryLargeRunEndsDone}
use Rattle.expresso_runs.proofs.LargeSummary.{large_summary}

-- the large input of a number, under a plan
abbrev pub large : ℕ → Plan → System
large number plan = system_under (buffer_of (capacity_of number)) producers_and_consumers plan

module _ (ends_done : EveryLargeRunEndsDone) (number workers : ℕ) (plan : Plan) (log : List Entry) (last : Configuration) (system : System)
    (placed : IsPlacedRun Placed (large number plan) log last) (unprompted : spurious_in log ≡ 0) (system_is : system ≡ large number plan) where
  pub stressed_closed : IsClosed system last
  stressed_closed = subst (λ (s : System). IsClosed s last) (sym system_is) placed.closed

  all_finished : IsFinished producers_and_consumers (situation_of last)
  all_finished = (ends_done number (commits_of log) (situation_of last) placed.run placed.ends).finished

  stress_shown : IsStressText number (summary_text (large number plan) log last)
  stress_shown = record {
    plan = plan;
    log = log;
    last = last;
    placed = placed;
    unprompted = unprompted;
    finished = all_finished;
    summed = refl;
    printed = large_summary number (large number plan) log last refl refl placed.run placed.ends;
  }

  pub stress_ended : (files : FilesSeen) (result : Status) (out out_now : SinkSeen)
      → IsWritten (ended (are_done system.clients (situation_of last).places)) (summary_text system log last) result out out_now → CommandEnds (stress number workers) files files result out out_now
  stress_ended files result out out_now written =
      work_ended (stress number workers) files files (summary_text (large number plan) log last) result out out_now true stress_shown (λ none. none) refl
      (subst (λ finished. IsWritten (ended finished) (summary_text (large number plan) log last) result out out_now) (finished_done producers_and_consumers (situation_of last) all_finished)
      (subst (λ (s : System). IsWritten (ended (are_done s.clients (situation_of last).places)) (summary_text s log last) result out out_now) system_is written))

-- the monitor and the clients are those of the large input
pub large_ended : EveryLargeRunEndsDone → (number workers : ℕ) (monitor : MonitorParts) (clients : List Client) (plan : Plan) (log : List Entry) (last : Configuration) (system : System)
    → monitor ≡ buffer_of (capacity_of number) → clients ≡ producers_and_consumers
    → IsPlacedRun Placed (system_under monitor clients plan) log last → spurious_in log ≡ 0 → system ≡ system_under monitor clients plan
    → (files : FilesSeen) (result : Status) (out out_now : SinkSeen)
    → IsWritten (ended (are_done system.clients (situation_of last).places)) (summary_text system log last) result out out_now → CommandEnds (stress number workers) files files result out out_now
large_ended ends_done number workers monitor clients plan log last system monitor_is clients_is placed unprompted system_is files result out out_now written =
    let same : system_under monitor clients plan ≡ large number plan = λ i. system_under (monitor_is i) (clients_is i) plan in
    stress_ended ends_done number workers plan log last system (subst (λ (s : System). IsPlacedRun Placed s log last) same placed) unprompted (system_is ∙ same) files result out out_now written
