use Rattle.std.proofs.Common.{◌≡◌, take}
use Rattle.std.specs.List.{filter}
use Rattle.report_audit.specs.Findings.{is_asked}
use Rattle.report_audit.proofs.asking.asked_of.Given as goal

abbrev pub invariant-loop-claim : goal.invariant-loop-claim
invariant-loop-claim l = l.asked.items ≡ filter (is_asked l.plan) (take l.claim-index l.claims)
