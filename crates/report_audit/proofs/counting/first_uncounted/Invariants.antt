use Rattle.std.proofs.Common.{◌+◌}
use Rattle.report_audit.specs.inner.Counted.{AreSignalsProved}
use Rattle.report_audit.proofs.counting.first_uncounted.Given as goal

abbrev pub invariant-loop-index : goal.invariant-loop-index
invariant-loop-index l = AreSignalsProved l.monitor l.plan (l.index + 1)
