use Rattle.report_fits.proofs.Checks.{AreSoFar}
use Rattle.report_fits.proofs.reasons.fit_reasons.Given as goal

abbrev pub invariant-loop-block : goal.invariant-loop-block
invariant-loop-block l = AreSoFar l.monitor l.kept l.found.items l.block
