-- How the work of a command ends.
use Rattle.std.specs.Prelude.{◌≡◌, ◌<◌, ◌≤◌, ◌⊎◌, ◌↔◌, ℕ, Bool, true, false, List}
use Rattle.std.specs.Io.KnownBytes.{Appends}
use Rattle.base_io.specs.Outside.{FilesSeen, SinkSeen, Rises}
use Rattle.report_text.specs.declared.fault.Fault.{Fault}
use Rattle.report_text.specs.declared.fault.Fault.TheVariants as faults
use Rattle.report_text.specs.FaultText.{unread_text}
use Rattle.expresso_answers.specs.declared.status.Status.{Status}
use Rattle.expresso_answers.specs.declared.status.Status.TheVariants as statuses
use Rattle.front_command.specs.CommandLine.{Command, reads}
use Rattle.expresso_answers.specs.Answers.{AcceptsFiles, RejectsFiles, IsDoneText, IsStalledText}
use Rattle.expresso_answers.specs.Answers.{IsRefusedText, IsUnfinished, IsUnreadText}
use Rattle.expresso_answers.specs.Answers.{IsWorkedOrMemory}
use Rattle.expresso_answers.specs.Answers.{IsRefusedOrMemory, IsStoppedOrMemory, IsUnreadOrMemory}

-- A sink was seen `before` a text was written and is seen `now`. All of the text was written and
-- handed on, and no fault rose.
pub record IsHandedOn (before now : SinkSeen) (text : List ℕ) : Type 0 where
  pub written : Appends before.written now.written text
  pub emptied : now.buffered ≡ 0
  pub steady : now.faults ≡ before.faults

-- Not all of it was, and a fault rose.
pub record IsCutShort (before now : SinkSeen) (text : List ℕ) : Type 0 where
  pub unfinished : IsUnfinished before now text
  pub cause : Rises before.faults now.faults
  pub later : before.faults ≤ now.faults

-- All of a text was written and handed on, and the status is the text's; or not all of it was, and
-- it is `WriteFault`.
abbrev pub IsWritten : Status → List ℕ → Status → SinkSeen → SinkSeen → Type 0
IsWritten status text result before now =
    ((result ≡ status) × IsHandedOn before now text)
    ⊎ ((result ≡ statuses.WriteFault) × IsCutShort before now text)

-- Between two views of files and of a sink no read failed and nothing was written.
pub record IsQuiet (files files_now : FilesSeen) (out out_now : SinkSeen) : Type 0 where
  pub steady : files_now.faults ≡ files.faults
  pub silent : out_now ≡ out

-- A file has no bytes for its command: memory ran out and nothing was written, or it couldn't be
-- read and its line was written.
abbrev pub IsUnread : List ℕ → FilesSeen → FilesSeen → Status → SinkSeen → SinkSeen → Type 0
IsUnread file files files_now status out out_now =
    ((status ≡ statuses.OutOfMemory) × (out_now ≡ out))
    ⊎ (Rises files.faults files_now.faults
    × IsWritten statuses.ReadFault (unread_text file) status out out_now)

-- A file is none that is accepted: memory ran out and nothing was written, or a line was written
-- that refuses it.
abbrev pub IsTurnedAway : (List ℕ → Type 0) → Status → SinkSeen → SinkSeen → Type 0
IsTurnedAway IsLine status out out_now =
    ((status ≡ statuses.OutOfMemory) × (out_now ≡ out))
    ⊎ ((text : List ℕ) × IsLine text × IsWritten statuses.Refused text status out out_now)

-- the status of a run
abbrev pub ended : Bool → Status
ended true = statuses.Done
ended false = statuses.Stalled

-- the status of a fault of a file
abbrev pub fault_status : Fault → Status
fault_status (faults.Unread file) = statuses.ReadFault
fault_status fault = statuses.Refused

-- the whole text of a command's status
abbrev pub IsCommandText : Command → FilesSeen → FilesSeen → Status → List ℕ → Type 0
IsCommandText command files files_now statuses.Done text = IsDoneText files.held command text
IsCommandText command files files_now statuses.Stalled text = IsStalledText files.held command text
IsCommandText command files files_now statuses.Refused text =
    IsRefusedText files.held (reads command) text
IsCommandText command files files_now statuses.ReadFault text =
    IsUnreadText command text × Rises files.faults files_now.faults
IsCommandText command files files_now status text = ⊥

-- a text was written for the command, or memory ran out and nothing was
abbrev pub AnswersCommand : Command → FilesSeen → FilesSeen → Status → SinkSeen → SinkSeen → Type 0
AnswersCommand command files files_now result out out_now =
    ((status : Status) × (text : List ℕ) × IsCommandText command files files_now status text
    × IsWritten status text result out out_now)
    ⊎ ((result ≡ statuses.OutOfMemory) × (out_now ≡ out))

-- How a command ended, between what was seen of the files and of the sink before it and what is
-- seen now: what was written, and which status had to come where nothing failed.
pub record CommandEnds (command : Command) (files files_now : FilesSeen) (result : Status)
    (out out_now : SinkSeen) : Type 0 where
  pub answer : AnswersCommand command files files_now result out out_now
  pub accepted : AcceptsFiles files.held (reads command)
      → (Rises files.faults files_now.faults → ⊥) → (Rises out.faults out_now.faults → ⊥)
      → IsWorkedOrMemory result
  pub rejected : RejectsFiles files.held (reads command)
      → (Rises files.faults files_now.faults → ⊥) → (Rises out.faults out_now.faults → ⊥)
      → IsRefusedOrMemory result
  pub stopped : RejectsFiles files.held (reads command)
      → (Rises out.faults out_now.faults → ⊥) → IsStoppedOrMemory result
  pub unread : files.faults < files_now.faults → (Rises out.faults out_now.faults → ⊥)
      → IsUnreadOrMemory result

-- What a call that reads leaves of files: their count of faults does not fall, and what they hold
-- and which may be read stays.
pub record KeepsFiles (files files_now : FilesSeen) (may may_now : List ℕ → Type 0) : Type 0 where
  pub reads : files.faults ≤ files_now.faults
  pub held : (name : List ℕ) → files_now.held name ≡ files.held name
  pub may_read : (name : List ℕ) → may_now name ↔ may name
