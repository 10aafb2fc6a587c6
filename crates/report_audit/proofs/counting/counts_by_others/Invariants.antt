use Rattle.report_audit.proofs.Uncounted.{NoneOfRows}
use Rattle.report_audit.proofs.counting.counts_by_others.Given as goal

abbrev pub invariant-loop-before : goal.invariant-loop-before
invariant-loop-before l = NoneOfRows l.monitor l.plan l.condition l.before
