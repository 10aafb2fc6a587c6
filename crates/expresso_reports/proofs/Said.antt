-- How a command ends that accepts the other file or refuses it.
use Rattle.std.proofs.Common.{◌≡◌, ℕ, true, List, sym, subst}
use Rattle.base_io.specs.Outside.{FilesSeen, SinkSeen}
use Rattle.lang_tree.specs.declared.tree.MonitorTree.{MonitorTree}
use Rattle.lang_monitor.specs.MonitorParts.{MonitorParts}
use Rattle.front_command.specs.CommandLine.{Command, CommandFiles, Other, reads, two_files}
use Rattle.expresso_answers.specs.declared.status.Status.{Status}
use Rattle.expresso_answers.specs.declared.status.Status.TheVariants as statuses
use Rattle.expresso_answers.specs.Answers.{HoldsBytes, HoldsMonitor, IsDoneText, IsOtherRefusal, IsOtherText, MayAccept, MustAccept, RejectsFiles}
use Rattle.expresso_answers.specs.Ending.{CommandEnds, IsWritten}
use Rattle.expresso_reports.specs.inner.Saying.{IsSaid}
use Rattle.expresso_answers.proofs.FirstFaults.{OneSpelling, OneTree}
use Rattle.expresso_answers.proofs.Outcomes.{written_since}
use Rattle.expresso_answers.proofs.OtherFile.{none_rejected, other_refused}
use Rattle.expresso_answers.proofs.Ending.{work_ended}

-- no bytes that a line refuses must be accepted, and those that one accepts may be
pub said_ended : OneSpelling → OneTree → (other : Other) (monitor_file file bytes slice : List ℕ) (files : FilesSeen) → slice ≡ bytes → HoldsBytes files.held file bytes
    → (tree : MonitorTree) (monitor : MonitorParts) → HoldsMonitor files.held monitor_file tree monitor
    → (IsLine : MonitorTree → MonitorParts → List ℕ → List ℕ → Type 0)
    → ((text : List ℕ) → IsOtherRefusal other file tree monitor slice text → MustAccept other monitor slice → ⊥) → ((text : List ℕ) → IsLine tree monitor slice text → MayAccept other monitor slice)
    → (command : Command) → reads command ≡ two_files other monitor_file file → ((text : List ℕ) → IsOtherText files.held IsLine monitor_file file text → IsDoneText files.held command text)
    → (files_now : FilesSeen) (status : Status) (text : List ℕ) (result : Status) (out mid out_now : SinkSeen) → files_now.faults ≡ files.faults → mid ≡ out
    → IsSaid (IsLine tree monitor slice) (IsOtherRefusal other file tree monitor slice) status text → IsWritten status text result mid out_now → CommandEnds command files files_now result out out_now
said_ended one_spelling one_tree other monitor_file file bytes slice files same holds_bytes tree monitor holds IsLine refutes allows command read done files_now status text result out mid out_now steady silent said written =
    by_status status said written
  where
    here : HoldsBytes files.held file slice
    here = subst (λ (b : List ℕ). HoldsBytes files.held file b) (sym same) holds_bytes

    by_status : (one : Status) → IsSaid (IsLine tree monitor slice) (IsOtherRefusal other file tree monitor slice) one text → IsWritten one text result mid out_now → CommandEnds command files files_now result out out_now
    by_status statuses.Done line wrote =
        work_ended command files files_now text result out out_now true
        (done text (record { tree = tree; monitor = monitor; bytes = slice; holds = holds; told = here; line = line }))
        (λ rejects. none_rejected one_spelling one_tree other monitor_file file slice files here tree monitor holds (allows text line) (subst (λ (some : CommandFiles). RejectsFiles files.held some) read rejects))
        steady (written_since statuses.Done text result out mid out_now silent wrote)
    by_status statuses.Refused line wrote =
        other_refused one_spelling one_tree other monitor_file file slice files here tree monitor holds files_now result out mid out_now steady silent text line (refutes text line) wrote command read
    by_status other_status none wrote = absurd none
