use Rattle.emit_code.proofs.Counting.{counted_late, none_counted, left_out}
use Rattle.emit_code.specs.Executions.{program_with}
use Rattle.emit_code.proofs.laws.counts_are_kept.Goals as goal

pub returns-clause-kept : goal.returns-clause-kept
returns-clause-kept c = counted_late

pub returns-clause-nobody : goal.returns-clause-nobody
returns-clause-nobody c system told timed last run = none_counted last (counted_late system told timed last run)

pub returns-clause-left_out : goal.returns-clause-left_out
returns-clause-left_out c system told timed last run = left_out (program_with system told timed) last (counted_late system told timed last run)
