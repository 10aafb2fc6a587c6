-- What a check of one certificate of a question says.
use Rattle.std.proofs.Common.{◌≡◌, ◌↔◌, ℕ, ◌+◌, ◌<◌, ◌≤◌, Bool, true, false, IsTrue, length, get_or, take, Option, Some, None, Result, Ok, Err, inl, inr, refl, sym, ap, subst, ◌∙◌, arith}
use Rattle.std.specs.Prelude.{List, IfOk, IsSomeAnd, All, slice_get}
use Rattle.std.specs.List.{zip}
use Rattle.std.specs.declared.alloc.AllocError.{AllocError}
use Rattle.std.proofs.lemmas.Bool.{false≢true}
use Rattle.std.proofs.lemmas.Option.{slice_get-get_or}
use Rattle.std.proofs.lemmas.Slice.Zip.{length-zip}
use Rattle.logic_linear.specs.declared.formula.Formula.{Formula}
use Rattle.logic_cert.specs.declared.cert.Cert.{Cert}
use Rattle.logic_cert.specs.Refutes.{Refutes}
use Rattle.lang_monitor.specs.declared.candidate.Candidate.{Candidate}
use Rattle.lang_monitor.specs.declared.query.Query.{Query}
use Rattle.lang_monitor.specs.MonitorParts.{MonitorParts}
use Rattle.logic_wp.specs.Limits.{is_query_within, query_within}
use Rattle.logic_wp.specs.NegatedQueries.{negated_query}
use Rattle.plan_count.specs.declared.question.Question.{Question}
use Rattle.plan_count.specs.Questions.{question_query}
use Rattle.report_verdict.proofs.Answered.{within_none, within_some}
use Rattle.report_verdict.proofs.Pairs.{all_taken, one_more_at, zip_at}
use Rattle.report_tally.specs.CountedVerdicts.{IsAnswered, IsUnanswered}
use Rattle.report_tally.specs.inner.Checks.{IsCheckOf, IsFirstUnanswered, with_cert}

pub answer_some : (monitor : MonitorParts) (kept : List Candidate) (question : Question) (cert : Cert)
    (query : Query) (formula : Formula) (result : Result Bool AllocError)
    → query ≡ question_query monitor kept question → query_within monitor query ≡ Some formula
    → IfOk result (λ accepted. IsTrue accepted ↔ Refutes formula cert)
    → IfOk result (IsCheckOf monitor kept question cert)
answer_some monitor kept question cert query formula result made within told =
    by_result result (subst (λ (one : Formula). IfOk result (λ accepted. IsTrue accepted ↔ Refutes one cert)) (sym parts.1) told)
  where
    own : Query
    own = question_query monitor kept question

    parts : (is_query_within monitor own ≡ true) × (negated_query monitor own ≡ formula)
    parts = within_some (is_query_within monitor own) (negated_query monitor own) formula (sym (ap (query_within monitor) made) ∙ within)

    by_result : (result : Result Bool AllocError)
        → IfOk result (λ accepted. IsTrue accepted ↔ Refutes (negated_query monitor own) cert)
        → IfOk result (IsCheckOf monitor kept question cert)
    by_result (Ok true) told = (told.0 refl, parts.0)
    by_result (Ok false) told = inl (λ proof. false≢true (told.1 proof))
    by_result (Err fault) told = tt

pub answer_none : (monitor : MonitorParts) (kept : List Candidate) (question : Question) (cert : Cert)
    (query : Query) → query ≡ question_query monitor kept question → query_within monitor query ≡ None
    → IsUnanswered monitor kept (with_cert question cert)
answer_none monitor kept question cert query made none =
    let own = question_query monitor kept question in
    inr (within_none (is_query_within monitor own) (negated_query monitor own) (sym (ap (query_within monitor) made) ∙ none))

-- ---- questions in step with their certificates

there : (asked : List Question) (certs : List Cert) (place : ℕ) (question d : Question) (cert e : Cert)
    → place < length asked → length certs ≡ length asked → question ≡ get_or asked place d
    → cert ≡ get_or certs place e → slice_get (zip asked certs) place ≡ Some (with_cert question cert)
there asked certs place question d cert e low same is at =
    zip_at asked certs place question cert (slice_get-get_or asked place d low ∙ ap {B = Option Question} (λ (one : Question). Some one) (sym is))
    (slice_get-get_or certs place e (omega (arith, low, same)) ∙ ap {B = Option Cert} (λ (one : Cert). Some one) (sym at))

pub first_here : (monitor : MonitorParts) (kept : List Candidate) (asked : List Question)
    (certs : List Cert) (place : ℕ) (question d : Question) (cert e : Cert) (result : Bool)
    → place < length asked
    → length certs ≡ length asked → question ≡ get_or asked place d → cert ≡ get_or certs place e
    → IsCheckOf monitor kept question cert result → result ≡ false
    → All (IsAnswered monitor kept) (take place (zip asked certs))
    → IsFirstUnanswered monitor kept (zip asked certs) (Some place)
first_here monitor kept asked certs place question d cert e result low same is at told fails before = (
  before,
  subst (λ (o : Option (Question × Cert)). IsSomeAnd o (IsUnanswered monitor kept)) (sym (there asked certs place question d cert e low same is at))
      (subst (IsCheckOf monitor kept question cert) fails told),
)

pub answered_more : (monitor : MonitorParts) (kept : List Candidate) (asked : List Question)
    (certs : List Cert) (place : ℕ) (question d : Question) (cert e : Cert) (result : Bool)
    → place < length asked
    → length certs ≡ length asked → question ≡ get_or asked place d → cert ≡ get_or certs place e
    → IsCheckOf monitor kept question cert result → result ≡ true
    → All (IsAnswered monitor kept) (take place (zip asked certs))
    → All (IsAnswered monitor kept) (take (place + 1) (zip asked certs))
answered_more monitor kept asked certs place question d cert e result low same is at told passes before =
    one_more_at (IsAnswered monitor kept) (zip asked certs) place (with_cert question cert) (there asked certs place question d cert e low same is at) before
    (subst (IsCheckOf monitor kept question cert) passes told)

pub all_answered : (monitor : MonitorParts) (kept : List Candidate) (asked : List Question)
    (certs : List Cert) (place : ℕ) → length asked ≤ place
    → All (IsAnswered monitor kept) (take place (zip asked certs))
    → All (IsAnswered monitor kept) (zip asked certs)
all_answered monitor kept asked certs place end before =
    all_taken (IsAnswered monitor kept) (zip asked certs) place (omega (arith, end, length-zip asked certs)) before
