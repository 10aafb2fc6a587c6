use Rattle.report_tally.proofs.NamedRows.{NoneNamed}
use Rattle.report_tally.proofs.answering.named_row.Given as goal

abbrev pub invariant-loop-before : goal.invariant-loop-before
invariant-loop-before l = NoneNamed l.monitor l.question l.bytes l.before
