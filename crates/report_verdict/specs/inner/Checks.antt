-- For private contracts: what is known of claims once their certificates were checked.
use Rattle.std.specs.Prelude.{◌≡◌, Bool, true, false, List}
use Rattle.logic_cert.specs.declared.cert.Cert.{Cert}
use Rattle.lang_monitor.specs.declared.candidate.Candidate.{Candidate}
use Rattle.lang_monitor.specs.declared.claim.Claim.{Claim}
use Rattle.lang_monitor.specs.MonitorParts.{MonitorParts}
use Rattle.lang_monitor.specs.Queries.{query_of}
use Rattle.logic_wp.specs.Limits.{is_query_within}
use Rattle.report_verdict.specs.Verdicts.{IsOpen, IsProof}

-- a claim with its certificate
abbrev pub with_cert : Claim → Cert → Claim × Cert
with_cert claim cert = (claim, cert)

-- whether the certificate proves the claim, whose query is negated within the limits
abbrev pub IsAnswer : MonitorParts → List Candidate → Claim → Cert → Bool → Type 0
IsAnswer monitor kept claim cert true =
    IsProof monitor kept (with_cert claim cert)
    × (is_query_within monitor (query_of monitor kept claim) ≡ true)
IsAnswer monitor kept claim cert false = IsOpen monitor kept (with_cert claim cert)
