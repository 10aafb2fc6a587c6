-- For private contracts: what is known of claims once the prover was asked.
use Rattle.std.specs.Prelude.{◌≡◌, ℕ, Bool, true, false, List, take, All, Option, Some, None}
use Rattle.std.specs.Prelude.{slice_get}
use Rattle.lang_monitor.specs.declared.candidate.Candidate.{Candidate}
use Rattle.lang_monitor.specs.declared.claim.Claim.{Claim}
use Rattle.lang_monitor.specs.MonitorParts.{MonitorParts}
use Rattle.lang_monitor.specs.Queries.{query_of}
use Rattle.lang_monitor.specs.Triples.{Holds}
use Rattle.plan_prune.specs.Hardness.{MayStayOpen}
use Rattle.plan_claims.specs.Backing.{HasCertificate}

-- the claim holds only where its query may stay open
abbrev pub IsOpen : MonitorParts → List Candidate → Claim → Type 0
IsOpen monitor kept claim =
    Holds monitor kept claim → MayStayOpen monitor (query_of monitor kept claim)

-- the claim has a certificate, or is open
abbrev pub IsAnswer : MonitorParts → List Candidate → Claim → Bool → Type 0
IsAnswer monitor kept claim true = HasCertificate monitor kept claim
IsAnswer monitor kept claim false = IsOpen monitor kept claim

-- this claim is the first without a certificate
pub record IsOpenAt (monitor : MonitorParts) (kept : List Candidate) (claims : List Claim)
    (claim : Claim) : Type 0 where
  pub place : ℕ
  pub here : slice_get claims place ≡ Some claim
  pub before : All (HasCertificate monitor kept) (take place claims)
  pub unproved : IsOpen monitor kept claim

-- the first claim without a certificate, or none
abbrev pub IsFirstOpen : MonitorParts → List Candidate → List Claim → Option Claim → Type 0
IsFirstOpen monitor kept claims None = All (HasCertificate monitor kept) claims
IsFirstOpen monitor kept claims (Some claim) = IsOpenAt monitor kept claims claim
