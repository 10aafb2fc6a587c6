use Rattle.std.proofs.Common.{take}
use Rattle.std.specs.Prelude.{All}
use Rattle.plan_claims.specs.Backing.{HasCertificate}
use Rattle.report_audit.proofs.asking.first_unproved.Given as goal

abbrev pub invariant-loop-place : goal.invariant-loop-place
invariant-loop-place l = All (HasCertificate l.monitor l.kept) (take l.place l.claims)
