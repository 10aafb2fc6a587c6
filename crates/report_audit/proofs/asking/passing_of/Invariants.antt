use Rattle.std.proofs.Common.{◌≡◌, take}
use Rattle.std.specs.List.{filter}
use Rattle.report_audit.specs.CountedFindings.{is_passing}
use Rattle.report_audit.proofs.asking.passing_of.Given as goal

abbrev pub invariant-loop-claim : goal.invariant-loop-claim
invariant-loop-claim l = l.some.items ≡ filter (is_passing l.plan l.condition) (take l.claim-index l.claims)
