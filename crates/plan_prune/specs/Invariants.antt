-- Invariants: candidates that are true at the start and that each block keeps, with certificates.
use Rattle.std.specs.Prelude.{◌≡◌, ◌↔◌, ℕ, ◌<◌, List, map, length, All, Option, Some, None}
use Rattle.std.specs.List.{Contains}
use Rattle.logic_cert.specs.declared.cert.Cert.{Cert}
use Rattle.logic_cert.specs.Refutes.{Refutes}
use Rattle.lang_monitor.specs.declared.candidate.Candidate.{Candidate}
use Rattle.lang_monitor.specs.declared.claim.Claim.{Claim}
use Rattle.lang_monitor.specs.declared.claim.Claim.TheVariants as claims
use Rattle.lang_monitor.specs.declared.query.Query.{Query}
use Rattle.lang_monitor.specs.Candidates.{AreSomeOf, candidates_of}
use Rattle.lang_monitor.specs.MonitorParts.{MonitorParts}
use Rattle.lang_monitor.specs.Queries.{query_of}
use Rattle.lang_monitor.specs.Triples.{IsInductive, IsValidQuery}
use Rattle.logic_wp.specs.NegatedQueries.{negated_query}
use Rattle.plan_candidates.specs.Claims.{keeps_claims}
use Rattle.plan_prune.specs.declared.kept.Kept.{Kept}
use Rattle.plan_prune.specs.Hardness.{MayBeKept, MayStayOpen}

-- ---- certificates

-- a certificate refutes the negated query; there is none only where the query may stay open or is
-- not valid
abbrev pub IsDecision : MonitorParts → Query → Option Cert → Type 0
IsDecision monitor query (Some cert) = Refutes (negated_query monitor query) cert
IsDecision monitor query None = IsValidQuery monitor query → MayStayOpen monitor query

-- ---- the proofs of an invariant

abbrev pub claim_of : Kept → Claim
claim_of proof = claims.Keeps proof.candidate proof.block

-- the certificate refutes the negated query of the claim, under these hypotheses
abbrev pub Proves : MonitorParts → List Candidate → Kept → Type 0
Proves monitor hyps proof =
    Refutes (negated_query monitor (query_of monitor hyps (claim_of proof))) proof.cert

-- one proof of each claim, in the order of the claims
pub record AreProofs (monitor : MonitorParts) (hyps kept : List Candidate) (proofs : List Kept) :
    Type 0 where
  pub claims : map claim_of proofs ≡ keeps_claims monitor kept
  pub each : All (Proves monitor hyps) proofs

-- ---- invariants

-- some of the monitor's candidates, which are inductive
pub record IsInvariant (monitor : MonitorParts) (kept : List Candidate) : Type 0 where
  pub candidates : AreSomeOf kept (candidates_of monitor)
  pub inductive : IsInductive monitor kept

-- of a block that keeps one of these candidates no query may stay open, whatever may be kept with
-- them
abbrev pub NoneMayStayOpen : MonitorParts → List Candidate → Type 0
NoneMayStayOpen monitor others =
    (kept : List Candidate) → MayBeKept monitor kept → All (Contains kept) others
    → (candidate : Candidate) (block : ℕ)
    → Contains others candidate → block < length monitor.blocks
    → MayStayOpen monitor (query_of monitor kept (claims.Keeps candidate block)) → ⊥

-- it contains each invariant none of whose queries may stay open
abbrev pub ContainsEasy : MonitorParts → List Candidate → Type 0
ContainsEasy monitor kept = (other : List Candidate)
    → IsInvariant monitor other → NoneMayStayOpen monitor other → All (Contains kept) other

-- some invariant contains the candidate
pub record IsInSome (monitor : MonitorParts) (candidate : Candidate) : Type 0 where
  pub kept : List Candidate
  pub invariant : IsInvariant monitor kept
  pub contains : Contains kept candidate

-- an invariant of exactly those candidates that some invariant contains
pub record IsGreatest (monitor : MonitorParts) (kept : List Candidate) : Type 0 where
  pub invariant : IsInvariant monitor kept
  pub exactly : (candidate : Candidate) → Contains kept candidate ↔ IsInSome monitor candidate
