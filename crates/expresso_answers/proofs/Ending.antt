-- How a command ends, by what was written last.
use Rattle.std.proofs.Common.{◌≡◌, ℕ, Bool, true, false, List, sym, subst, inl, inr, arith}
use Rattle.std.specs.Prelude.{Any}
use Rattle.base_io.specs.Outside.{FilesSeen, SinkSeen, Rises}
use Rattle.report_text.specs.FaultText.{unread_text}
use Rattle.expresso_answers.specs.declared.status.Status.{Status}
use Rattle.expresso_answers.specs.declared.status.Status.TheVariants as statuses
use Rattle.front_command.specs.CommandLine.{Command, CommandFiles, names_in, reads}
use Rattle.expresso_answers.specs.Answers.{AcceptsFiles, RejectsFiles, IsRefusedText, IsUnreadText, IsWorkedOrMemory, IsRefusedOrMemory, IsStoppedOrMemory, IsUnreadOrMemory}
use Rattle.expresso_answers.specs.Ending.{CommandEnds, IsCommandText, IsUnread, IsWritten, ended}
use Rattle.expresso_answers.specs.Input.{ReadersEnd}

-- a status that a text came to, where the sink took it whole
pub whole_status : (P : Status → Type 0) (status : Status) (text : List ℕ) (result : Status) (out out_now : SinkSeen) → P status → IsWritten status text result out out_now
    → (Rises out.faults out_now.faults → ⊥) → P result
whole_status P status text result out out_now holds (inl (same, whole)) no_write = subst P (sym same) holds
whole_status P status text result out out_now holds (inr (same, cut)) no_write = absurd (no_write cut.cause)

module _ (command : Command) (files files_now : FilesSeen) (text : List ℕ) (result : Status) (out out_now : SinkSeen) where
  -- a file couldn't be read
  pub unread_ended : IsUnreadText command text → Rises files.faults files_now.faults → IsWritten statuses.ReadFault text result out out_now → CommandEnds command files files_now result out out_now
  unread_ended line risen written = record {
    answer = inl (statuses.ReadFault, text, (line, risen), written);
    accepted = λ accepts no_read no_write. absurd (no_read risen);
    rejected = λ rejects no_read no_write. absurd (no_read risen);
    stopped = λ rejects no_write. whole_status IsStoppedOrMemory statuses.ReadFault text result out out_now tt written no_write;
    unread = λ rose no_write. whole_status IsUnreadOrMemory statuses.ReadFault text result out out_now tt written no_write;
  }

  -- a file isn't accepted
  pub refused_ended : IsRefusedText files.held (reads command) text → (AcceptsFiles files.held (reads command) → ⊥) → files_now.faults ≡ files.faults → IsWritten statuses.Refused text result out out_now
      → CommandEnds command files files_now result out out_now
  refused_ended line none steady written = record {
    answer = inl (statuses.Refused, text, line, written);
    accepted = λ accepts no_read no_write. absurd (none accepts);
    rejected = λ rejects no_read no_write. whole_status IsRefusedOrMemory statuses.Refused text result out out_now tt written no_write;
    stopped = λ rejects no_write. whole_status IsStoppedOrMemory statuses.Refused text result out out_now tt written no_write;
    unread = λ rose no_write. absurd (omega (arith, rose, steady));
  }

  is_run : (finished : Bool) → IsWorkedOrMemory (ended finished)
  is_run true = tt
  is_run false = tt

  -- the work was done
  pub work_ended : (finished : Bool) → IsCommandText command files files_now (ended finished) text → (RejectsFiles files.held (reads command) → ⊥) → files_now.faults ≡ files.faults
      → IsWritten (ended finished) text result out out_now → CommandEnds command files files_now result out out_now
  work_ended finished is none steady written = record {
    answer = inl (ended finished, text, is, written);
    accepted = λ accepts no_read no_write. whole_status IsWorkedOrMemory (ended finished) text result out out_now (is_run finished) written no_write;
    rejected = λ rejects no_read no_write. absurd (none rejects);
    stopped = λ rejects no_write. absurd (none rejects);
    unread = λ rose no_write. absurd (omega (arith, rose, steady));
  }

-- memory ran out
pub memory_ended : (command : Command) (files files_now : FilesSeen) (result : Status) (out out_now : SinkSeen) → result ≡ statuses.OutOfMemory → out_now ≡ out
    → CommandEnds command files files_now result out out_now
memory_ended command files files_now result out out_now is silent = record {
  answer = inr (is, silent);
  accepted = λ accepts no_read no_write. subst IsWorkedOrMemory (sym is) tt;
  rejected = λ rejects no_read no_write. subst IsRefusedOrMemory (sym is) tt;
  stopped = λ rejects no_write. subst IsStoppedOrMemory (sym is) tt;
  unread = λ rose no_write. subst IsUnreadOrMemory (sym is) tt;
}

-- a file of the command has no bytes
pub no_bytes_ended : (command : Command) (file : List ℕ) (files files_now : FilesSeen) (result : Status) (out out_now : SinkSeen) → IsUnreadText command (unread_text file)
    → IsUnread file files files_now result out out_now → CommandEnds command files files_now result out out_now
no_bytes_ended command file files files_now result out out_now line (inl (is, silent)) = memory_ended command files files_now result out out_now is silent
no_bytes_ended command file files files_now result out out_now line (inr (risen, written)) = unread_ended command files files_now (unread_text file) result out out_now line risen written

-- ---- any command that reads these files

abbrev pub IsNamed : List ℕ → CommandFiles → Type 0
IsNamed file read = Any (λ name. unread_text file ≡ unread_text name) (names_in read)

module _ (read : CommandFiles) (files files_now : FilesSeen) (result : Status) (out out_now : SinkSeen) where
  pub readers_memory : result ≡ statuses.OutOfMemory → out_now ≡ out → ReadersEnd read files files_now result out out_now
  readers_memory is silent command same = memory_ended command files files_now result out out_now is silent

  pub readers_unread : (file : List ℕ) → IsNamed file read → IsUnread file files files_now result out out_now → ReadersEnd read files files_now result out out_now
  readers_unread file named unread command same = no_bytes_ended command file files files_now result out out_now (subst (IsNamed file) (sym same) named) unread

  pub readers_refused : (text : List ℕ) → IsRefusedText files.held read text → (AcceptsFiles files.held read → ⊥) → files_now.faults ≡ files.faults → IsWritten statuses.Refused text result out out_now
      → ReadersEnd read files files_now result out out_now
  readers_refused text line none steady written command same =
      refused_ended command files files_now text result out out_now (subst (λ (some : CommandFiles). IsRefusedText files.held some text) (sym same) line)
      (λ accepts. none (subst (AcceptsFiles files.held) same accepts)) steady written
