-- A call of the program ends as its command ended, or with the usage, or where memory ran out
-- before the words were read.
use Rattle.std.proofs.Common.{◌≡◌, ℕ, ◌≤◌, List, Result, Ok, Err, refl, sym, subst, ◌∙◌, inl, inr, arith}
use Rattle.std.specs.Prelude.{IfOk, IfErr}
use Rattle.base_io.specs.Outside.{FilesSeen, SinkSeen, Rises}
use Rattle.front_command.specs.declared.command.Command.{Command as Words}
use Rattle.front_command.specs.CommandLine.{Command, Takes, TakesNone}
use Rattle.front_command.specs.Commands.{command_meant}
use Rattle.expresso_answers.specs.declared.status.Status.{Status}
use Rattle.expresso_answers.specs.declared.status.Status.TheVariants as statuses
use Rattle.expresso_answers.specs.Texts.{usage_text}
use Rattle.expresso_answers.specs.Answers.{IsUsageOrMemory}
use Rattle.expresso.specs.ProgramEnds.{ProgramEnds}
use Rattle.expresso_answers.specs.Ending.{AnswersCommand, CommandEnds, IsCommandText, IsWritten}
use Rattle.expresso.proofs.Answering.{command_answers, usage_answers}
use Rattle.expresso.proofs.Completeness.{OneCommand, accepted_runs, rejected_refused, rejected_stops}
use Rattle.expresso_answers.proofs.Ending.{whole_status}

-- ---- what a status says of the sink

record LeavesSink (result : Status) (out out_now : SinkSeen) : Type 0 where
  cause : result ≡ statuses.WriteFault → Rises out.faults out_now.faults
  steady : (result ≡ statuses.WriteFault → ⊥) → out_now.faults ≡ out.faults
  emptied : (result ≡ statuses.WriteFault → ⊥) → (result ≡ statuses.OutOfMemory → ⊥) → out_now.buffered ≡ 0
  later : out.faults ≤ out_now.faults

written_leaves : (status : Status) (text : List ℕ) (result : Status) (out out_now : SinkSeen) → (status ≡ statuses.WriteFault → ⊥) → IsWritten status text result out out_now → LeavesSink result out out_now
written_leaves status text result out out_now other (inl (same, whole)) = record {
  cause = λ is. absurd (other (sym same ∙ is));
  steady = λ none. whole.steady;
  emptied = λ none some. whole.emptied;
  later = omega (arith, whole.steady);
}
written_leaves status text result out out_now other (inr (same, cut)) = record {
  cause = λ is. cut.cause;
  steady = λ none. absurd (none same);
  emptied = λ none some. absurd (none same);
  later = cut.later;
}

memory_no_write : statuses.OutOfMemory ≡ statuses.WriteFault → ⊥
memory_no_write same = cc

memory_no_read : statuses.OutOfMemory ≡ statuses.ReadFault → ⊥
memory_no_read same = cc

write_no_read : statuses.WriteFault ≡ statuses.ReadFault → ⊥
write_no_read same = cc

usage_no_write : statuses.Usage ≡ statuses.WriteFault → ⊥
usage_no_write same = cc

usage_no_read : statuses.Usage ≡ statuses.ReadFault → ⊥
usage_no_read same = cc

memory_leaves : (result : Status) (out : SinkSeen) → result ≡ statuses.OutOfMemory → LeavesSink result out out
memory_leaves result out is = record {
  cause = λ fault. absurd (memory_no_write (sym is ∙ fault));
  steady = λ none. refl;
  emptied = λ none some. absurd (some is);
  later = omega arith;
}

command_leaves : (command : Command) (files files_now : FilesSeen) (result : Status) (out out_now : SinkSeen) → AnswersCommand command files files_now result out out_now → LeavesSink result out out_now
command_leaves command files files_now result out out_now (inl (status, text, is, written)) =
    written_leaves status text result out out_now (λ fault. subst (λ (s : Status). IsCommandText command files files_now s text) fault is) written
command_leaves command files files_now result out out_now (inr (same, silent)) = subst (λ (s : SinkSeen). LeavesSink result out s) (sym silent) (memory_leaves result out same)

-- a read fault is one of the files
command_unread : (command : Command) (files files_now : FilesSeen) (result : Status) (out out_now : SinkSeen) → AnswersCommand command files files_now result out out_now
    → result ≡ statuses.ReadFault → Rises files.faults files_now.faults
command_unread command files files_now result out out_now (inl (status, text, is, inl (same, whole))) fault =
    (subst (λ (s : Status). IsCommandText command files files_now s text) (sym same ∙ fault) is).1
command_unread command files files_now result out out_now (inl (status, text, is, inr (same, cut))) fault = absurd (write_no_read (sym same ∙ fault))
command_unread command files files_now result out out_now (inr (same, silent)) fault = absurd (memory_no_read (sym same ∙ fault))

-- ---- the call

pub command_ended : OneCommand → (words : List (List ℕ)) (command : Command) (files files_now : FilesSeen) (result : Status) (out out_now : SinkSeen)
    → Takes words command → CommandEnds command files files_now result out out_now → ProgramEnds words files files_now result out out_now
command_ended one_command words command files files_now result out out_now taken has_ended =
    let leaves : LeavesSink result out out_now = command_leaves command files files_now result out out_now has_ended.answer in
    record {
      answer = command_answers words command files files_now result out out_now taken has_ended.answer;
      read_fault = command_unread command files files_now result out out_now has_ended.answer;
      write_fault = leaves.cause;
      usage = λ none no_write. absurd (none command taken);
      accepted = accepted_runs one_command words command files files_now result out out_now taken has_ended;
      rejected = rejected_refused one_command words command files files_now result out out_now taken has_ended;
      stopped = rejected_stops one_command words command files files_now result out out_now taken has_ended;
      unread = has_ended.unread;
      handed_on = leaves.steady;
      flushed = leaves.emptied;
      writes = leaves.later;
    }

-- the call that a command's work answers ends so, where it is a status
pub each_ended : {E : Type 0} → OneCommand → (words : List (List ℕ)) (command : Command) (files files_now : FilesSeen) (answer : Result Status E) (out out_now : SinkSeen)
    → Takes words command → IfOk answer (λ status. CommandEnds command files files_now status out out_now) → IfOk answer (λ status. ProgramEnds words files files_now status out out_now)
each_ended one_command words command files files_now (Ok status) out out_now taken has_ended = command_ended one_command words command files files_now status out out_now taken has_ended
each_ended one_command words command files files_now (Err left) out out_now taken has_ended = tt

-- and where it is the command handed back, the words ask for that
pub left_taken : (words : List (List ℕ)) (command : Words) (answer : Result Status Words) → Takes words (command_meant command)
    → IfErr answer (λ left. left ≡ command) → IfErr answer (λ left. Takes words (command_meant left))
left_taken words command (Ok status) taken same = tt
left_taken words command (Err left) taken same = subst (λ (one : Words). Takes words (command_meant one)) (sym same) taken

usage_unread : (result : Status) (out out_now : SinkSeen) → IsWritten statuses.Usage usage_text result out out_now → result ≡ statuses.ReadFault → ⊥
usage_unread result out out_now (inl (same, whole)) fault = usage_no_read (sym same ∙ fault)
usage_unread result out out_now (inr (same, cut)) fault = write_no_read (sym same ∙ fault)

pub usage_ended : (words : List (List ℕ)) (files : FilesSeen) (result : Status) (out out_now : SinkSeen)
    → TakesNone words → IsWritten statuses.Usage usage_text result out out_now → ProgramEnds words files files result out out_now
usage_ended words files result out out_now none written =
    let leaves : LeavesSink result out out_now = written_leaves statuses.Usage usage_text result out out_now usage_no_write written in
    record {
      answer = usage_answers words files files result out out_now none written;
      read_fault = λ fault. absurd (usage_unread result out out_now written fault);
      write_fault = leaves.cause;
      usage = λ also no_write. whole_status IsUsageOrMemory statuses.Usage usage_text result out out_now tt written no_write;
      accepted = λ accepts no_read no_write. absurd (none accepts.0 accepts.1);
      rejected = λ rejects no_read no_write. absurd (none rejects.0 rejects.1);
      stopped = λ rejects no_write. absurd (none rejects.0 rejects.1);
      unread = λ rose no_write. absurd (omega (arith, rose));
      handed_on = leaves.steady;
      flushed = leaves.emptied;
      writes = leaves.later;
    }

pub no_words_ended : (words : List (List ℕ)) (files : FilesSeen) (out : SinkSeen) → ProgramEnds words files files statuses.OutOfMemory out out
no_words_ended words files out = record {
  answer = refl;
  read_fault = λ fault. absurd (memory_no_read fault);
  write_fault = λ fault. absurd (memory_no_write fault);
  usage = λ none no_write. tt;
  accepted = λ accepts no_read no_write. tt;
  rejected = λ rejects no_read no_write. tt;
  stopped = λ rejects no_write. tt;
  unread = λ rose no_write. tt;
  handed_on = λ none. refl;
  flushed = λ none some. absurd (some refl);
  writes = omega arith;
}
