-- Where nothing fails, the status is the one that the words and the files ask for.
use Rattle.std.proofs.Common.{◌≡◌, ℕ, List, subst}
use Rattle.base_io.specs.Outside.{FilesSeen, SinkSeen}
use Rattle.front_command.specs.CommandLine.{Command, Takes, reads}
use Rattle.expresso_answers.specs.declared.status.Status.{Status}
use Rattle.expresso_answers.specs.Answers.{IsFaultless, Accepts, Rejects, AcceptsFiles, RejectsFiles, IsWorkedOrMemory, IsRefusedOrMemory, IsStoppedOrMemory}
use Rattle.expresso_answers.specs.Ending.{CommandEnds}

-- words take one command at most
abbrev pub OneCommand : Type 0
OneCommand = (words : List (List ℕ)) (command other : Command) → Takes words command → Takes words other → command ≡ other

-- accepted files are worked on
pub accepted_runs : OneCommand → (words : List (List ℕ)) (command : Command) (files files_now : FilesSeen) (result : Status) (out out_now : SinkSeen)
    → Takes words command → CommandEnds command files files_now result out out_now → Accepts files.held words → IsFaultless files.faults files_now.faults → IsFaultless out.faults out_now.faults → IsWorkedOrMemory result
accepted_runs one_command words command files files_now result out out_now taken has_ended (other, also, accepts) no_read no_write =
    has_ended.accepted (subst (λ (one : Command). AcceptsFiles files.held (reads one)) (one_command words other command also taken) accepts) no_read no_write

-- rejected files are refused
pub rejected_refused : OneCommand → (words : List (List ℕ)) (command : Command) (files files_now : FilesSeen) (result : Status) (out out_now : SinkSeen)
    → Takes words command → CommandEnds command files files_now result out out_now → Rejects files.held words → IsFaultless files.faults files_now.faults → IsFaultless out.faults out_now.faults → IsRefusedOrMemory result
rejected_refused one_command words command files files_now result out out_now taken has_ended (other, also, rejects) no_read no_write =
    has_ended.rejected (subst (λ (one : Command). RejectsFiles files.held (reads one)) (one_command words other command also taken) rejects) no_read no_write

-- and are not worked on even where a count of faults stands at its end
pub rejected_stops : OneCommand → (words : List (List ℕ)) (command : Command) (files files_now : FilesSeen) (result : Status) (out out_now : SinkSeen)
    → Takes words command → CommandEnds command files files_now result out out_now → Rejects files.held words → IsFaultless out.faults out_now.faults → IsStoppedOrMemory result
rejected_stops one_command words command files files_now result out out_now taken has_ended (other, also, rejects) no_write =
    has_ended.stopped (subst (λ (one : Command). RejectsFiles files.held (reads one)) (one_command words other command also taken) rejects) no_write
