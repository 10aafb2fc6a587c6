use Rattle.report_tally.proofs.OneLines.{IsWalking}
use Rattle.report_tally.proofs.finding.found_claims.Given as goal

abbrev pub invariant-loop-index : goal.invariant-loop-index
invariant-loop-index l = IsWalking l.monitor l.claims l.bytes l.index l.found.items l.rest
