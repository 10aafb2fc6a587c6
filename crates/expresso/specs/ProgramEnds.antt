-- How a call of the program ends.
use Rattle.std.specs.Prelude.{◌≡◌, ◌<◌, ◌≤◌, ℕ, List}
use Rattle.base_io.specs.Outside.{FilesSeen, SinkSeen, Rises}
use Rattle.front_command.specs.CommandLine.{Command, run, stress, block, TakesNone}
use Rattle.expresso_answers.specs.declared.status.Status.{Status}
use Rattle.expresso_answers.specs.declared.status.Status.TheVariants.{ReadFault, WriteFault}
use Rattle.expresso_answers.specs.declared.status.Status.TheVariants.{OutOfMemory}
use Rattle.expresso_answers.specs.Answers.{Answers, Accepts, Rejects, IsFaultless, IsWorkedOrMemory}
use Rattle.expresso_answers.specs.Answers.{IsRefusedOrMemory, IsStoppedOrMemory, IsUsageOrMemory}
use Rattle.expresso_answers.specs.Answers.{IsUnreadOrMemory}
pub use Rattle.expresso_answers.specs.Ending.{KeepsFiles}

-- the command runs clients in threads
abbrev pub HasThreads : Command → Type 0
HasThreads (run monitor clients workers choice) = Unit {0}
HasThreads (stress number workers) = Unit {0}
HasThreads (block monitor clients choice) = Unit {0}
HasThreads command = ⊥

-- How a call on these words ended, between what was seen of the files and of the sink before it and
-- what is seen now.
pub record ProgramEnds (words : List (List ℕ)) (files files_now : FilesSeen) (status : Status)
    (out out_now : SinkSeen) : Type 0 where
  -- What was written is what the status says.
  pub answer : Answers words files files_now status out out_now
  pub read_fault : status ≡ ReadFault → Rises files.faults files_now.faults
  pub write_fault : status ≡ WriteFault → Rises out.faults out_now.faults
  -- Where the devices do not fail, the words and the files ask for this status, unless memory ran
  -- out.
  pub usage : TakesNone words → IsFaultless out.faults out_now.faults → IsUsageOrMemory status
  pub accepted : Accepts files.held words → IsFaultless files.faults files_now.faults
      → IsFaultless out.faults out_now.faults → IsWorkedOrMemory status
  pub rejected : Rejects files.held words → IsFaultless files.faults files_now.faults
      → IsFaultless out.faults out_now.faults → IsRefusedOrMemory status
  -- Where a told file is not accepted and the sink is faultless no work is done, at the end of the
  -- files' count of faults too.
  pub stopped : Rejects files.held words → IsFaultless out.faults out_now.faults
      → IsStoppedOrMemory status
  -- Where the files' count of faults rose and the sink is faultless this must come.
  pub unread : files.faults < files_now.faults → IsFaultless out.faults out_now.faults
      → IsUnreadOrMemory status
  -- Any status but `WriteFault` leaves the sink's count of faults as it was, and any but that and
  -- `OutOfMemory` leaves no byte in its buffer.
  pub handed_on : (status ≡ WriteFault → ⊥) → out_now.faults ≡ out.faults
  pub flushed : (status ≡ WriteFault → ⊥) → (status ≡ OutOfMemory → ⊥) → out_now.buffered ≡ 0
  -- The count does not fall.
  pub writes : out.faults ≤ out_now.faults
