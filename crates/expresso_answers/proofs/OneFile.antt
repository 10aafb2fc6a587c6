-- How a command ends by the bytes of its first file, a monitor's.
use Rattle.std.proofs.Common.{◌≡◌, ℕ, List, Option, Result, Ok, Err, refl, sym, subst, ◌∙◌, arith, inl, inr}
use Rattle.std.specs.Prelude.{IfErr, IfOk}
use Rattle.base_io.specs.Outside.{FilesSeen, SinkSeen, IsRead}
use Rattle.lang_tree.specs.declared.tree.MonitorTree.{MonitorTree}
use Rattle.lang_syntax.specs.Grammar.{IsMonitorFile}
use Rattle.lang_rules.specs.Rules.{faults_of}
use Rattle.lang_monitor.specs.MonitorParts.{MonitorParts}
use Rattle.expresso_answers.specs.declared.status.Status.{Status}
use Rattle.expresso_answers.specs.declared.status.Status.TheVariants as statuses
use Rattle.expresso_answers.specs.declared.monitor_file.MonitorFile.{MonitorFile}
use Rattle.front_command.specs.CommandLine.{CommandFiles, Other, one_file, two_files}
use Rattle.expresso_answers.specs.MonitorFiles.{IsAccepted, IsFirstOfMonitor}
use Rattle.expresso_answers.specs.FirstFaults.{IsRefusalLine}
use Rattle.expresso_answers.specs.Answers.{AcceptsFiles, AcceptsMonitor, HoldsBytes, HoldsMonitor, IsMonitorRefusal, IsRefusedText, RejectsMonitor}
use Rattle.expresso_answers.specs.Ending.{IsTurnedAway, IsUnread}
use Rattle.expresso_answers.specs.Input.{HoldsText, ReadersEnd}
use Rattle.expresso_answers.proofs.Telling.{told, is_told, accepted_told, line_told, holds_same, read_short}
use Rattle.expresso_answers.proofs.FirstFaults.{OneSpelling, NoSpelling, OneTree, no_line}
use Rattle.expresso_answers.proofs.Outcomes.{written_since}
use Rattle.expresso_answers.proofs.Ending.{IsNamed, readers_memory, readers_refused, readers_unread}

-- ---- the files of a command

-- this is the first of them, the monitor's
pub record Begins (read : CommandFiles) (file : List ℕ) : Type 0 where
  pub named : IsNamed file read
  pub refused : (held : List ℕ → Option (List ℕ)) (text : List ℕ) → IsMonitorRefusal held file text → IsRefusedText held read text
  pub accepted : (held : List ℕ → Option (List ℕ)) → AcceptsFiles held read → AcceptsMonitor held file

pub alone : (file : List ℕ) → Begins (one_file file) file
alone file = record { named = (0, file, omega arith, refl, refl); refused = λ held text line. line; accepted = λ held accepts. accepts }

pub beside : (other : Other) (file name : List ℕ) → Begins (two_files other file name) file
beside other file name = record { named = (0, file, omega arith, refl, refl); refused = λ held text line. inl line; accepted = λ held accepts. monitor_accepted held accepts }
  where
    monitor_accepted : (held : List ℕ → Option (List ℕ)) → AcceptsFiles held (two_files other file name) → AcceptsMonitor held file
    monitor_accepted held (bytes, more, tree, monitor, tells, also, accepted, must) = (bytes, tree, monitor, tells, accepted)

-- ---- the file has no bytes

pub file_unread : (read : CommandFiles) (file : List ℕ) → Begins read file → (files files_now : FilesSeen) (result : Status) (out out_now : SinkSeen) → IsUnread file files files_now result out out_now
    → ReadersEnd read files files_now result out out_now
file_unread read file begins files files_now result out out_now unread = readers_unread read files files_now result out out_now file begins.named unread

-- ---- the bytes that were read are refused

-- a file that a line refuses is not accepted
no_line_of : OneSpelling → NoSpelling → OneTree → (held : List ℕ → Option (List ℕ)) (file bytes text : List ℕ) → IsRead (held file) 65536 bytes → IsRefusalLine (IsFirstOfMonitor bytes) file bytes text → AcceptsMonitor held file → ⊥
no_line_of one_spelling no_spelling one_tree held file bytes text read line (all, tree, monitor, is, accepted) =
    let same = holds_same held file all (told (held file) bytes) is (is_told (held file) bytes) in
    no_line IsMonitorFile faults_of one_spelling no_spelling one_tree all accepted.tokens tree accepted.spelled accepted.derived accepted.unbroken file text accepted.short
    (subst (λ (b : List ℕ). IsRefusalLine (IsFirstOfMonitor b) file b text) same (line_told IsMonitorFile faults_of (held file) file bytes text read line))

pub file_refused : OneSpelling → NoSpelling → OneTree → (read : CommandFiles) (file : List ℕ) → Begins read file → (bytes slice : List ℕ) (files files_now : FilesSeen) (result : Status) (out mid out_now : SinkSeen)
    → slice ≡ bytes → IsRead (files.held file) 65536 bytes → files_now.faults ≡ files.faults → mid ≡ out
    → IsTurnedAway (IsRefusalLine (IsFirstOfMonitor slice) file slice) result mid out_now → ReadersEnd read files files_now result out out_now
file_refused one_spelling no_spelling one_tree read file begins bytes slice files files_now result out mid out_now same was_read steady silent (inl (memory, nothing)) =
    readers_memory read files files_now result out out_now memory (nothing ∙ silent)
file_refused one_spelling no_spelling one_tree read file begins bytes slice files files_now result out mid out_now same was_read steady silent (inr (text, line, written)) =
    let here : IsRead (files.held file) 65536 slice = subst (λ (b : List ℕ). IsRead (files.held file) 65536 b) (sym same) was_read in
    readers_refused read files files_now result out out_now text
    (begins.refused files.held text (record { bytes = told (files.held file) slice; told = is_told (files.held file) slice; line = line_told IsMonitorFile faults_of (files.held file) file slice text here line }))
    (λ accepts. no_line_of one_spelling no_spelling one_tree files.held file slice text here line (begins.accepted files.held accepts)) steady
    (written_since statuses.Refused text result out mid out_now silent written)

pub file_judged : OneSpelling → NoSpelling → OneTree → (file bytes slice : List ℕ) (files files_now : FilesSeen) (result : Result MonitorFile Status) (out mid out_now : SinkSeen)
    → slice ≡ bytes → IsRead (files.held file) 65536 bytes → files_now.faults ≡ files.faults → mid ≡ out
    → IfErr result (λ status. IsTurnedAway (IsRefusalLine (IsFirstOfMonitor slice) file slice) status mid out_now) → IfErr result (λ status. ReadersEnd (one_file file) files files_now status out out_now)
file_judged one_spelling no_spelling one_tree file bytes slice files files_now (Ok found) out mid out_now same was_read steady silent away = tt
file_judged one_spelling no_spelling one_tree file bytes slice files files_now (Err status) out mid out_now same was_read steady silent away =
    file_refused one_spelling no_spelling one_tree (one_file file) file (alone file) bytes slice files files_now status out mid out_now same was_read steady silent away

-- ---- the bytes that were read are accepted

pub monitor_held : (held : List ℕ → Option (List ℕ)) (file bytes slice : List ℕ) (tree : MonitorTree) (monitor : MonitorParts)
    → slice ≡ bytes → IsRead (held file) 65536 bytes → IsAccepted slice tree monitor → HoldsMonitor held file tree monitor
monitor_held held file bytes slice tree monitor same read accepted =
    let here : IsRead (held file) 65536 slice = subst (λ (b : List ℕ). IsRead (held file) 65536 b) (sym same) read in
    record {
      bytes = told (held file) slice;
      told = is_told (held file) slice;
      accepted = accepted_told (held file) slice tree monitor here accepted;
    }

pub text_held : (held : List ℕ → Option (List ℕ)) (file bytes slice : List ℕ) (tree : MonitorTree) (monitor : MonitorParts)
    → slice ≡ bytes → IsRead (held file) 65536 bytes → IsAccepted slice tree monitor → HoldsText held file bytes tree monitor
text_held held file bytes slice tree monitor same read accepted =
    let here : IsAccepted bytes tree monitor = subst (λ (b : List ℕ). IsAccepted b tree monitor) same accepted in
    record {
      told = subst (λ (b : List ℕ). HoldsBytes held file b) (sym (read_short 65536 (held file) bytes read here.short)) (is_told (held file) bytes);
      accepted = here;
    }

pub each_held : (held : List ℕ → Option (List ℕ)) (file bytes slice : List ℕ) (result : Result MonitorFile Status) → slice ≡ bytes → IsRead (held file) 65536 bytes
    → IfOk result (λ found. IsAccepted slice found.tree found.monitor) → IfOk result (λ found. HoldsMonitor held file found.tree found.monitor)
each_held held file bytes slice (Ok found) same read accepted = monitor_held held file bytes slice found.tree found.monitor same read accepted
each_held held file bytes slice (Err status) same read accepted = tt

-- an accepted file is not rejected
pub no_rejection : (held : List ℕ → Option (List ℕ)) (file : List ℕ) (tree : MonitorTree) (monitor : MonitorParts) → HoldsMonitor held file tree monitor → RejectsMonitor held file → ⊥
no_rejection held file tree monitor holds (all, is, none) =
    let same = holds_same held file all holds.bytes is holds.told in
    none tree monitor (subst (λ (b : List ℕ). IsAccepted b tree monitor) same holds.accepted)
