use Rattle.std.proofs.Common.{◌≡◌, take}
use Rattle.std.specs.List.{filter}
use Rattle.report_audit.specs.CountedFindings.{is_common}
use Rattle.report_audit.proofs.asking.common_of.Given as goal

abbrev pub invariant-loop-claim : goal.invariant-loop-claim
invariant-loop-claim l = l.some.items ≡ filter is_common (take l.claim-index l.claims)
