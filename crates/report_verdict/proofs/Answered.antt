-- What a check of one certificate says.
use Rattle.std.proofs.Common.{◌≡◌, ◌↔◌, ℕ, ◌+◌, ◌<◌, ◌≤◌, Bool, true, false, IsTrue, length, get_or, take, Option, Some, None, Result, Ok, Err, inl, inr, refl, sym, ap, subst, ◌∙◌, arith}
use Rattle.std.specs.Prelude.{List, IfOk, IsSomeAnd, slice_get, unwrap_or}
use Rattle.std.specs.List.{zip}
use Rattle.std.specs.declared.alloc.AllocError.{AllocError}
use Rattle.std.proofs.lemmas.Bool.{false≢true}
use Rattle.std.proofs.lemmas.Option.{slice_get-get_or}
use Rattle.std.proofs.lemmas.Slice.Zip.{length-zip}
use Rattle.logic_linear.specs.declared.formula.Formula.{Formula}
use Rattle.logic_cert.specs.declared.cert.Cert.{Cert}
use Rattle.logic_cert.specs.Refutes.{Refutes}
use Rattle.lang_monitor.specs.declared.candidate.Candidate.{Candidate}
use Rattle.lang_monitor.specs.declared.claim.Claim.{Claim}
use Rattle.lang_monitor.specs.declared.query.Query.{Query}
use Rattle.lang_monitor.specs.MonitorParts.{MonitorParts}
use Rattle.lang_monitor.specs.Queries.{query_of}
use Rattle.logic_wp.specs.Limits.{is_query_within, query_within, value_if}
use Rattle.logic_wp.specs.NegatedQueries.{negated_query}
use Rattle.report_verdict.specs.inner.Checks.{IsAnswer, with_cert}
use Rattle.report_verdict.specs.Verdicts.{AreChecked, IsFirstOpen, IsOpen, IsProof}
use Rattle.report_verdict.proofs.Pairs.{all_taken, one_more_at, zip_at}

abbrev is_some : Option Formula → Bool
is_some None = false
is_some (Some formula) = true

pub within_some : (held : Bool) (x formula : Formula) → value_if held x ≡ Some formula
    → (held ≡ true) × (x ≡ formula)
within_some true x formula is = (refl, ap (λ (o : Option Formula). unwrap_or o x) is)
within_some false x formula is = absurd (false≢true (ap is_some is))

pub within_none : (held : Bool) (x : Formula) → value_if held x ≡ None → held ≡ false
within_none true x is = absurd (false≢true (sym (ap is_some is)))
within_none false x is = refl

pub answer_some : (monitor : MonitorParts) (kept : List Candidate) (claim : Claim) (cert : Cert)
    (query : Query) (formula : Formula) (result : Result Bool AllocError)
    → query ≡ query_of monitor kept claim → query_within monitor query ≡ Some formula
    → IfOk result (λ accepted. IsTrue accepted ↔ Refutes formula cert)
    → IfOk result (IsAnswer monitor kept claim cert)
answer_some monitor kept claim cert query formula result made within told =
    by_result result (subst (λ (one : Formula). IfOk result (λ accepted. IsTrue accepted ↔ Refutes one cert)) (sym parts.1) told)
  where
    parts : (is_query_within monitor (query_of monitor kept claim) ≡ true)
        × (negated_query monitor (query_of monitor kept claim) ≡ formula)
    parts = within_some (is_query_within monitor (query_of monitor kept claim)) (negated_query monitor (query_of monitor kept claim)) formula
        (sym (ap (query_within monitor) made) ∙ within)

    by_result : (result : Result Bool AllocError)
        → IfOk result
        (λ accepted. IsTrue accepted ↔ Refutes (negated_query monitor (query_of monitor kept claim)) cert)
        → IfOk result (IsAnswer monitor kept claim cert)
    by_result (Ok true) told = (told.0 refl, parts.0)
    by_result (Ok false) told = inl (λ proof. false≢true (told.1 proof))
    by_result (Err fault) told = tt

pub answer_none : (monitor : MonitorParts) (kept : List Candidate) (claim : Claim) (cert : Cert)
    (query : Query)
    → query ≡ query_of monitor kept claim → query_within monitor query ≡ None
    → IsOpen monitor kept (with_cert claim cert)
answer_none monitor kept claim cert query made none =
    inr (within_none (is_query_within monitor (query_of monitor kept claim)) (negated_query monitor (query_of monitor kept claim)) (sym (ap (query_within monitor) made) ∙ none))

-- ---- claims in step with their certificates

abbrev Checked : MonitorParts → List Candidate → Claim × Cert → Type 0
Checked monitor kept one = IsProof monitor kept one × (is_query_within monitor (query_of monitor kept one.0) ≡ true)

there : (claims : List Claim) (certs : List Cert) (place : ℕ) (claim d : Claim) (cert e : Cert)
    → place < length claims → length certs ≡ length claims → claim ≡ get_or claims place d
    → cert ≡ get_or certs place e → slice_get (zip claims certs) place ≡ Some (with_cert claim cert)
there claims certs place claim d cert e low same is at =
    zip_at claims certs place claim cert (slice_get-get_or claims place d low ∙ ap {B = Option Claim} (λ (one : Claim). Some one) (sym is))
    (slice_get-get_or certs place e (omega (arith, low, same)) ∙ ap {B = Option Cert} (λ (one : Cert). Some one) (sym at))

pub first_here : (monitor : MonitorParts) (kept : List Candidate) (claims : List Claim)
    (certs : List Cert) (place : ℕ) (claim d : Claim) (cert e : Cert) (result : Bool)
    → place < length claims
    → length certs ≡ length claims → claim ≡ get_or claims place d → cert ≡ get_or certs place e
    → IsAnswer monitor kept claim cert result → result ≡ false
    → AreChecked monitor kept (take place (zip claims certs))
    → IsFirstOpen monitor kept (zip claims certs) (Some place)
first_here monitor kept claims certs place claim d cert e result low same is at told fails before = (
  before,
  subst (λ (o : Option (Claim × Cert)). IsSomeAnd o (IsOpen monitor kept)) (sym (there claims certs place claim d cert e low same is at))
      (subst (IsAnswer monitor kept claim cert) fails told),
)

pub checked_more : (monitor : MonitorParts) (kept : List Candidate) (claims : List Claim)
    (certs : List Cert) (place : ℕ) (claim d : Claim) (cert e : Cert) (result : Bool)
    → place < length claims
    → length certs ≡ length claims → claim ≡ get_or claims place d → cert ≡ get_or certs place e
    → IsAnswer monitor kept claim cert result → result ≡ true
    → AreChecked monitor kept (take place (zip claims certs))
    → AreChecked monitor kept (take (place + 1) (zip claims certs))
checked_more monitor kept claims certs place claim d cert e result low same is at told passes before =
    one_more_at (Checked monitor kept) (zip claims certs) place (with_cert claim cert) (there claims certs place claim d cert e low same is at) before
    (subst (IsAnswer monitor kept claim cert) passes told)

pub all_checked : (monitor : MonitorParts) (kept : List Candidate) (claims : List Claim)
    (certs : List Cert) (place : ℕ) → length claims ≤ place
    → AreChecked monitor kept (take place (zip claims certs))
    → AreChecked monitor kept (zip claims certs)
all_checked monitor kept claims certs place end before =
    all_taken (Checked monitor kept) (zip claims certs) place (omega (arith, end, length-zip claims certs)) before
