-- The exit status of the program.
use Rattle.std.specs.Prelude.{ℕ}
use Rattle.expresso_answers.specs.declared.status.Status.{Status}
use Rattle.expresso_answers.specs.declared.status.Status.TheVariants.{Done, Refused, Usage}
use Rattle.expresso_answers.specs.declared.status.Status.TheVariants.{ReadFault}
use Rattle.expresso_answers.specs.declared.status.Status.TheVariants.{WriteFault, OutOfMemory}
use Rattle.expresso_answers.specs.declared.status.Status.TheVariants.{Stalled}

abbrev pub exit_status : Status → ℕ
exit_status Done = 0
exit_status Refused = 1
exit_status Usage = 2
exit_status ReadFault = 3
exit_status WriteFault = 4
exit_status OutOfMemory = 5
exit_status Stalled = 6
