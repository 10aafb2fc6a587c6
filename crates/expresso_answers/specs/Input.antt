-- What the bytes of the files of commands come to.
use Rattle.std.specs.Prelude.{◌≡◌, ◌<◌, ◌≤◌, ℕ, List, Option, length}
use Rattle.base_io.specs.Outside.{FilesSeen, SinkSeen}
use Rattle.report_text.specs.declared.fault.Fault.{Fault}
use Rattle.report_text.specs.Faults.{fault_text}
use Rattle.expresso_answers.specs.declared.status.Status.{Status}
use Rattle.expresso_answers.specs.declared.status.Status.TheVariants.{Refused}
use Rattle.front_command.specs.CommandLine.{Command, CommandFiles, Other, reads}
use Rattle.lang_tree.specs.declared.tree.MonitorTree.{MonitorTree}
use Rattle.lang_monitor.specs.MonitorParts.{MonitorParts}
use Rattle.expresso_answers.specs.MonitorFiles.{IsAccepted}
use Rattle.expresso_answers.specs.Answers.{HoldsBytes, IsOtherRefusal, MustAccept}
use Rattle.expresso_answers.specs.Ending.{CommandEnds, fault_status}

-- the file holds these bytes, where it is told, and they stand for the monitor
pub record HoldsText (held : List ℕ → Option (List ℕ)) (file bytes : List ℕ) (tree : MonitorTree)
    (monitor : MonitorParts) : Type 0 where
  pub told : HoldsBytes held file bytes
  pub accepted : IsAccepted bytes tree monitor

-- how any command ended that reads these files
abbrev pub ReadersEnd : CommandFiles → FilesSeen → FilesSeen → Status → SinkSeen → SinkSeen → Type 0
ReadersEnd read files files_now result out out_now =
    (command : Command) → reads command ≡ read
    → CommandEnds command files files_now result out out_now

-- the other file must have no more bytes than these to be accepted, and the fault's line refuses it
-- where it has
pub record IsLimit (other : Other) (file : List ℕ) (most : ℕ) (fault : Fault) : Type 0 where
  pub short : (monitor : MonitorParts) (bytes : List ℕ) → MustAccept other monitor bytes
      → length bytes ≤ most
  pub line : (tree : MonitorTree) (monitor : MonitorParts) (bytes : List ℕ) → most < length bytes
      → IsOtherRefusal other file tree monitor bytes (fault_text fault)
  pub status : fault_status fault ≡ Refused
