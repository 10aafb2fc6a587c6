-- How a command ends by the bytes of its other file, beside the monitor's.
use Rattle.std.proofs.Common.{◌≡◌, ℕ, ◌<◌, ◌≤◌, List, length, Option, Some, refl, sym, subst, ◌∙◌, inl, inr, arith}
use Rattle.base_io.specs.Outside.{FilesSeen, SinkSeen, IsRead, Rises}
use Rattle.lang_tree.specs.declared.tree.MonitorTree.{MonitorTree}
use Rattle.lang_syntax.specs.ClientGrammar.{IsClientFile}
use Rattle.lang_script.specs.Faults.{faults_of as clients_faults}
use Rattle.lang_monitor.specs.MonitorParts.{MonitorParts}
use Rattle.machine_implicit.specs.declared.script.Client.{Client}
use Rattle.report_text.specs.declared.fault.Fault.{Fault}
use Rattle.report_text.specs.Faults.{fault_text}
use Rattle.report_text.specs.FaultText.{too_long_text}
use Rattle.expresso_answers.specs.declared.status.Status.{Status}
use Rattle.expresso_answers.specs.declared.status.Status.TheVariants as statuses
use Rattle.front_command.specs.CommandLine.{Other, as_clients, two_files}
use Rattle.expresso_answers.specs.FirstFaults.{IsRefusalLine}
use Rattle.expresso_answers.specs.MonitorFiles.{IsAccepted}
use Rattle.expresso_answers.specs.Answers.{AcceptsFiles, HoldRun, HoldsBytes, HoldsMonitor, IsOtherRefusal, MayAccept, MustAccept, RejectsFiles}
use Rattle.expresso_answers.specs.ClientFiles.{AreAccepted, IsFirstOfClients}
use Rattle.expresso_answers.specs.Ending.{IsTurnedAway, IsUnread, IsWritten, fault_status}
use Rattle.expresso_answers.specs.Input.{IsLimit, ReadersEnd}
use Rattle.expresso_answers.proofs.Telling.{told, is_told, held_long, holds_same, read_short}
use Rattle.expresso_answers.proofs.FirstFaults.{OneSpelling, NoSpelling, OneTree, OneClientsTree, no_line}
use Rattle.expresso_answers.proofs.Outcomes.{written_since}
use Rattle.expresso_answers.proofs.OneMonitor.{one_monitor}
use Rattle.expresso_answers.proofs.Ending.{readers_memory, readers_refused, readers_unread}

-- ---- it has no bytes

pub other_unread : (other : Other) (monitor file : List ℕ) (files between files_now : FilesSeen) (result : Status) (out mid out_now : SinkSeen)
    → between.faults ≡ files.faults → mid ≡ out → IsUnread file between files_now result mid out_now → ReadersEnd (two_files other monitor file) files files_now result out out_now
other_unread other monitor file files between files_now result out mid out_now steady silent unread =
    readers_unread (two_files other monitor file) files files_now result out out_now file (1, file, omega arith, refl, refl)
    (subst (λ (s : SinkSeen). IsUnread file files files_now result s out_now) silent (later_unread unread))
  where
    later_unread : IsUnread file between files_now result mid out_now → IsUnread file files files_now result mid out_now
    later_unread (inl memory) = inl memory
    later_unread (inr (risen, written)) = inr (subst (λ (n : ℕ). Rises n files_now.faults) steady risen, written)

-- ---- it was read

-- no read changes what files hold
other_read : (held later : List ℕ → Option (List ℕ)) (file bytes : List ℕ) (most : ℕ) → later file ≡ held file → IsRead (later file) most bytes → IsRead (held file) most bytes
other_read held later file bytes most same read = subst (λ (o : Option (List ℕ)). IsRead o most bytes) same read

-- a short file holds the bytes that were read
pub other_held : (held later : List ℕ → Option (List ℕ)) (file bytes slice : List ℕ) (most : ℕ) → slice ≡ bytes → later file ≡ held file → IsRead (later file) most bytes → length slice ≤ most → HoldsBytes held file bytes
other_held held later file bytes slice most is same read short =
    let here : length bytes ≤ most = subst (λ (b : List ℕ). length b ≤ most) is short in
    subst (λ (b : List ℕ). HoldsBytes held file b) (sym (read_short most (held file) bytes (other_read held later file bytes most same read) here)) (is_told (held file) bytes)

-- ---- the bytes of an accepted monitor's command

module _ (one_spelling : OneSpelling) (one_tree : OneTree) (other : Other) (monitor_file file bytes : List ℕ) (files : FilesSeen)
    (holds_bytes : HoldsBytes files.held file bytes) (tree : MonitorTree) (monitor : MonitorParts) (holds : HoldsMonitor files.held monitor_file tree monitor) where
  -- another monitor that the first file holds is this one
  one_held : (all : List ℕ) (also : MonitorTree) (parts : MonitorParts) → files.held monitor_file ≡ Some all → IsAccepted all also parts → parts ≡ monitor
  one_held all also parts tells accepted =
      let own : all ≡ holds.bytes = sym (holds_same files.held monitor_file all holds.bytes tells holds.told) in
      one_monitor one_spelling one_tree holds.bytes also tree parts monitor (subst (λ (b : List ℕ). IsAccepted b also parts) own accepted) holds.accepted

  none_accepted : (MustAccept other monitor bytes → ⊥) → AcceptsFiles files.held (two_files other monitor_file file) → ⊥
  none_accepted none (all, more, also, parts, monitor_tells, tells, accepted, must) =
      let same : more ≡ bytes = sym (holds_same files.held file more bytes tells holds_bytes) in
      none (subst (λ (m : MonitorParts). MustAccept other m bytes) (one_held all also parts monitor_tells accepted) (subst (MustAccept other parts) same must))

  pub none_rejected : MayAccept other monitor bytes → RejectsFiles files.held (two_files other monitor_file file) → ⊥
  none_rejected may (all, more, monitor_tells, tells, nothing) =
      nothing tree monitor (subst (λ (b : List ℕ). IsAccepted b tree monitor) (holds_same files.held monitor_file all holds.bytes monitor_tells holds.told) holds.accepted)
      (subst (MayAccept other monitor) (holds_same files.held file more bytes tells holds_bytes) may)

  module _ (files_now : FilesSeen) (result : Status) (out mid out_now : SinkSeen) (steady : files_now.faults ≡ files.faults) (silent : mid ≡ out) where
    pub other_refused : (text : List ℕ) → IsOtherRefusal other file tree monitor bytes text → (MustAccept other monitor bytes → ⊥) → IsWritten statuses.Refused text result mid out_now
        → ReadersEnd (two_files other monitor_file file) files files_now result out out_now
    other_refused text line none written =
        readers_refused (two_files other monitor_file file) files files_now result out out_now text
        (inr (record { tree = tree; monitor = monitor; bytes = bytes; holds = holds; told = holds_bytes; line = line }))
        (none_accepted none) steady (written_since statuses.Refused text result out mid out_now silent written)

    pub other_away : ((text : List ℕ) → IsOtherRefusal other file tree monitor bytes text → MustAccept other monitor bytes → ⊥) → IsTurnedAway (IsOtherRefusal other file tree monitor bytes) result mid out_now
        → ReadersEnd (two_files other monitor_file file) files files_now result out out_now
    other_away none (inl (memory, nothing)) = readers_memory (two_files other monitor_file file) files files_now result out out_now memory (nothing ∙ silent)
    other_away none (inr (text, line, written)) = other_refused text line (none text line) written

-- it is too long
pub other_long : OneSpelling → OneTree → (other : Other) (monitor_file file bytes slice : List ℕ) (files between files_now : FilesSeen) (most : ℕ) (fault : Fault) (result : Status) (out mid out_now : SinkSeen) (tree : MonitorTree) (monitor : MonitorParts)
    → slice ≡ bytes → HoldsMonitor files.held monitor_file tree monitor → between.held file ≡ files.held file → IsRead (between.held file) most bytes → most < length slice → files_now.faults ≡ files.faults → mid ≡ out
    → IsWritten (fault_status fault) (fault_text fault) result mid out_now → IsLimit other file most fault → ReadersEnd (two_files other monitor_file file) files files_now result out out_now
other_long one_spelling one_tree other monitor_file file bytes slice files between files_now most fault result out mid out_now tree monitor is holds same read long steady silent written limit =
    let all : List ℕ = told (files.held file) bytes in
    let here : most < length bytes = subst (λ (b : List ℕ). most < length b) is long in
    let more : most < length all = held_long most (files.held file) bytes (other_read files.held between.held file bytes most same read) here in
    other_refused one_spelling one_tree other monitor_file file all files (is_told (files.held file) bytes) tree monitor holds files_now result out mid out_now steady silent
    (fault_text fault) (limit.line tree monitor all more) (λ must. omega (arith, more, limit.short monitor all must))
    (subst (λ (status : Status). IsWritten status (fault_text fault) result mid out_now) limit.status written)

-- ---- clients

pub clients_limit : (file : List ℕ) (fault : Fault) → fault_text fault ≡ too_long_text file → fault_status fault ≡ statuses.Refused → IsLimit as_clients file 65536 fault
clients_limit file fault says is = record { short = λ monitor bytes must. must.1.short; line = λ tree monitor bytes long. inl (long, says); status = is }

-- files that hold a monitor and its clients are not rejected
pub held_not_rejected : (held : List ℕ → Option (List ℕ)) (monitor_file clients_file : List ℕ) (monitor : MonitorParts) (clients : List Client)
    → HoldRun held monitor_file clients_file monitor clients → RejectsFiles held (two_files as_clients monitor_file clients_file) → ⊥
held_not_rejected held monitor_file clients_file monitor clients files (mb, cb, monitor_tells, clients_tells, nothing) =
    nothing files.tree monitor
    (subst (λ (b : List ℕ). IsAccepted b files.tree monitor) (holds_same held monitor_file mb files.monitor_bytes monitor_tells files.monitor_told) files.monitor_accepted)
    (clients, subst (λ (b : List ℕ). AreAccepted b monitor clients) (holds_same held clients_file cb files.clients_bytes clients_tells files.clients_told) files.clients_accepted)

-- bytes that a line refuses are no clients
no_clients : OneSpelling → NoSpelling → OneClientsTree → (file bytes : List ℕ) (monitor : MonitorParts) (text : List ℕ) → IsRefusalLine (IsFirstOfClients bytes monitor) file bytes text → (clients : List Client) → AreAccepted bytes monitor clients → ⊥
no_clients one_spelling no_spelling one_clients file bytes monitor text line clients are =
    no_line IsClientFile (clients_faults monitor) one_spelling no_spelling one_clients bytes are.tokens are.tree are.spelled are.derived are.unbroken file text are.short line

pub clients_refused : OneSpelling → OneTree → NoSpelling → OneClientsTree → (monitor_file file bytes slice : List ℕ) (files files_now : FilesSeen) (result : Status) (out mid out_now : SinkSeen) → slice ≡ bytes
    → HoldsBytes files.held file bytes → (tree : MonitorTree) (monitor : MonitorParts) → HoldsMonitor files.held monitor_file tree monitor → files_now.faults ≡ files.faults → mid ≡ out
    → IsTurnedAway (IsRefusalLine (IsFirstOfClients slice monitor) file slice) result mid out_now → ReadersEnd (two_files as_clients monitor_file file) files files_now result out out_now
clients_refused one_spelling one_tree no_spelling one_clients monitor_file file bytes slice files files_now result out mid out_now same holds_bytes tree monitor holds steady silent away =
    let here : HoldsBytes files.held file slice = subst (λ (b : List ℕ). HoldsBytes files.held file b) (sym same) holds_bytes in
    other_away one_spelling one_tree as_clients monitor_file file slice files here tree monitor holds files_now result out mid out_now steady silent
    (λ text line must. no_clients one_spelling no_spelling one_clients file slice monitor text line must.0 must.1) away

-- both are accepted
pub input_held : (held : List ℕ → Option (List ℕ)) (monitor_file file bytes slice : List ℕ) (tree : MonitorTree) (monitor : MonitorParts) (clients : List Client) → slice ≡ bytes
    → HoldsBytes held file bytes → HoldsMonitor held monitor_file tree monitor → AreAccepted slice monitor clients → HoldRun held monitor_file file monitor clients
input_held held monitor_file file bytes slice tree monitor clients same holds_bytes holds are = record {
  monitor_bytes = holds.bytes;
  clients_bytes = bytes;
  tree = tree;
  monitor_told = holds.told;
  clients_told = holds_bytes;
  monitor_accepted = holds.accepted;
  clients_accepted = subst (λ (b : List ℕ). AreAccepted b monitor clients) same are;
}
