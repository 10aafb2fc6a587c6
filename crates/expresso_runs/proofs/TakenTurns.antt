-- How `turns` ends where the clients were run.
use Rattle.std.proofs.Common.{◌≡◌, ℕ, Bool, true, false, List, refl, sym, subst}
use Rattle.std.specs.Prelude.{IsTrue, ◌↔◌}
use Rattle.std.proofs.lemmas.Bool.{false≢true}
use Rattle.base_io.specs.Outside.{FilesSeen, SinkSeen}
use Rattle.lang_monitor.specs.MonitorParts.{MonitorParts}
use Rattle.machine_implicit.specs.declared.commit.Turns.{Turns}
use Rattle.machine_implicit.specs.declared.script.Client.{Client}
use Rattle.machine_implicit.specs.Runs.{IsFinished}
use Rattle.machine_implicit.specs.Rounds.{AreTurnsByRounds, end_of}
use Rattle.report_text.specs.TurnsText.{turns_text}
use Rattle.expresso_answers.specs.declared.status.Status.{Status}
use Rattle.front_command.specs.CommandLine.{turns}
use Rattle.expresso_answers.specs.Answers.{HoldRun, IsTurnsText}
use Rattle.expresso_answers.specs.Ending.{CommandEnds, IsCommandText, IsWritten, ended}
use Rattle.expresso_answers.proofs.OtherFile.{held_not_rejected}
use Rattle.expresso_answers.proofs.Ending.{work_ended}

module _ (monitor_file clients_file : List ℕ) (files files_now : FilesSeen) (monitor : MonitorParts) (clients : List Client) (run : Turns)
    (held : HoldRun files.held monitor_file clients_file monitor clients) (rounds : AreTurnsByRounds monitor clients run) where
  turns_shown : IsTurnsText files.held monitor_file clients_file clients run (turns_text monitor clients run)
  turns_shown = record { monitor = monitor; files = held; rounds = rounds; printed = refl }

  run_shown : (finished : Bool) → run.finished ≡ finished → IsCommandText (turns monitor_file clients_file) files files_now (ended finished) (turns_text monitor clients run)
  run_shown true end =
      let both : IsTrue run.finished ↔ IsFinished clients (end_of run) = rounds.finished in
      (clients, run, turns_shown, both.0 (subst IsTrue (sym end) refl))
  run_shown false end =
      let both : IsTrue run.finished ↔ IsFinished clients (end_of run) = rounds.finished in
      (clients, run, turns_shown, λ all. false≢true (subst IsTrue end (both.1 all)))

  pub run_ended : (result : Status) (out out_now : SinkSeen) → files_now.faults ≡ files.faults → IsWritten (ended run.finished) (turns_text monitor clients run) result out out_now
      → CommandEnds (turns monitor_file clients_file) files files_now result out out_now
  run_ended result out out_now steady written =
      work_ended (turns monitor_file clients_file) files files_now (turns_text monitor clients run) result out out_now run.finished
      (run_shown run.finished refl) (held_not_rejected files.held monitor_file clients_file monitor clients held) steady written
