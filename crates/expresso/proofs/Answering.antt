-- What was written for a command is what the status says.
use Rattle.std.proofs.Common.{ℕ, List, refl, sym, subst, inl, inr}
use Rattle.std.specs.Io.KnownBytes.{Appends}
use Rattle.base_io.specs.Outside.{FilesSeen, SinkSeen}
use Rattle.expresso_answers.specs.declared.status.Status.{Status}
use Rattle.expresso_answers.specs.declared.status.Status.TheVariants as statuses
use Rattle.front_command.specs.CommandLine.{Command, Takes, TakesNone}
use Rattle.expresso_answers.specs.Texts.{usage_text}
use Rattle.expresso_answers.specs.Answers.{IsText, Answers}
use Rattle.expresso_answers.specs.Ending.{AnswersCommand, IsCommandText, IsWritten}

-- a text that was written whole answers its status
whole_answers : (words : List (List ℕ)) (files files_now : FilesSeen) (status : Status) (text : List ℕ) (out out_now : SinkSeen) → IsText words files files_now status text → Appends out.written out_now.written text → Answers words files files_now status out out_now
whole_answers words files files_now statuses.Done text out out_now is appends = (text, is, appends)
whole_answers words files files_now statuses.Stalled text out out_now is appends = (text, is, appends)
whole_answers words files files_now statuses.Refused text out out_now is appends = (text, is, appends)
whole_answers words files files_now statuses.Usage text out out_now is appends = (text, is, appends)
whole_answers words files files_now statuses.ReadFault text out out_now is appends = (text, is, appends)
whole_answers words files files_now statuses.WriteFault text out out_now is appends = absurd is
whole_answers words files files_now statuses.OutOfMemory text out out_now is appends = absurd is

-- the text was written whole with its status, or a front of it
answers_written : (words : List (List ℕ)) (files files_now : FilesSeen) (status : Status) (text : List ℕ) (result : Status) (out out_now : SinkSeen)
    → IsText words files files_now status text → IsWritten status text result out out_now → Answers words files files_now result out out_now
answers_written words files files_now status text result out out_now is (inl (same, whole)) =
    subst (λ (s : Status). Answers words files files_now s out out_now) (sym same) (whole_answers words files files_now status text out out_now is whole.written)
answers_written words files files_now status text result out out_now is (inr (same, cut)) =
    subst (λ (s : Status). Answers words files files_now s out out_now) (sym same) (status, text, is, cut.unfinished)

-- a text of the command is one of the words that ask for it
command_text : (words : List (List ℕ)) (command : Command) (files files_now : FilesSeen) (status : Status) (text : List ℕ) → Takes words command → IsCommandText command files files_now status text → IsText words files files_now status text
command_text words command files files_now statuses.Done text taken is = (command, taken, is)
command_text words command files files_now statuses.Stalled text taken is = (command, taken, is)
command_text words command files files_now statuses.Refused text taken is = (command, taken, is)
command_text words command files files_now statuses.ReadFault text taken (line, risen) = (command, taken, line, risen)
command_text words command files files_now status text taken is = absurd is

pub command_answers : (words : List (List ℕ)) (command : Command) (files files_now : FilesSeen) (result : Status) (out out_now : SinkSeen)
    → Takes words command → AnswersCommand command files files_now result out out_now → Answers words files files_now result out out_now
command_answers words command files files_now result out out_now taken (inl (status, text, is, written)) =
    answers_written words files files_now status text result out out_now (command_text words command files files_now status text taken is) written
command_answers words command files files_now result out out_now taken (inr (same, silent)) = subst (λ (s : Status). Answers words files files_now s out out_now) (sym same) silent

pub usage_answers : (words : List (List ℕ)) (files files_now : FilesSeen) (result : Status) (out out_now : SinkSeen)
    → TakesNone words → IsWritten statuses.Usage usage_text result out out_now → Answers words files files_now result out out_now
usage_answers words files files_now result out out_now none written = answers_written words files files_now statuses.Usage usage_text result out out_now (none, refl) written
