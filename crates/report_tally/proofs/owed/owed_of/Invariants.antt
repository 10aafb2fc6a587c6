use Rattle.std.proofs.Common.{◌≡◌, take}
use Rattle.std.specs.List.{filter}
use Rattle.report_tally.specs.CountedReports.{is_owed}
use Rattle.report_tally.proofs.owed.owed_of.Given as goal

abbrev pub invariant-loop-claim : goal.invariant-loop-claim
invariant-loop-claim l = l.owed.items ≡ filter (is_owed l.counted) (take l.claim-index l.claims)
