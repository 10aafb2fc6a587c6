-- What a check of one certificate says, and what is found of each block.
use Rattle.std.proofs.Common.{◌≡◌, ◌↔◌, ℕ, zero, suc, ◌+◌, ◌<◌, ◌≤◌, ◌⊎◌, Bool, true, false, IsTrue, List, [], ◌∷◌, ◌++◌, length, get_or, take, Option, Some, None, Result, Ok, Err, inl, inr, refl, sym, ap, subst, ◌∙◌, arith}
use Rattle.std.specs.Prelude.{All, IfOk, IsSomeAnd, slice_get}
use Rattle.std.specs.declared.alloc.AllocError.{AllocError}
use Rattle.std.proofs.lemmas.Bool.{false≢true}
use Rattle.std.proofs.lemmas.List.{length_push}
use Rattle.std.proofs.lemmas.Option.{none-some, same_Some, slice_get-get_or}
use Rattle.logic_linear.specs.declared.formula.Formula.{Formula}
use Rattle.logic_cert.specs.declared.cert.Cert.{Cert}
use Rattle.logic_cert.specs.Refutes.{Refutes}
use Rattle.logic_wp.specs.Limits.{value_if}
use Rattle.lang_monitor.specs.declared.candidate.Candidate.{Candidate}
use Rattle.lang_monitor.specs.MonitorParts.{MonitorParts}
use Rattle.plan_fits.specs.Answers.{AreFitAnswers}
use Rattle.plan_fits.specs.Laws.{CertifiedBlocksFit}
use Rattle.plan_fits.specs.Outside.{outside_question}
use Rattle.plan_fits.specs.Within.{is_made_within}
use Rattle.report_verdict.proofs.Answered.{within_none, within_some}
use Rattle.report_verdict.proofs.Pairs.{all_at, all_taken, one_more_at}
use Rattle.report_fits.specs.declared.fit.Fit.{Fit}
use Rattle.report_fits.specs.declared.reasons.FitReason.{FitReason}
use Rattle.report_fits.specs.FitReasons.{IsFitReason}
use Rattle.report_fits.specs.FitTexts.{certified}
use Rattle.report_fits.specs.FitVerdicts.{IsFirstOpenFit, IsFit, IsOpenFit}
use Rattle.report_fits.specs.inner.Reading.{IsFitCheck, fit_of}
use Rattle.report_fits.proofs.FitLines.{certified_all}

-- ---- one certificate

pub check_some : CertifiedBlocksFit → (monitor : MonitorParts) (kept : List Candidate) (fit : Fit) (question : Formula) (result : Result Bool AllocError)
    → value_if (is_made_within monitor kept fit.block) (outside_question monitor kept fit.block) ≡ Some question
    → IfOk result (λ accepted. IsTrue accepted ↔ Refutes question fit.cert) → IfOk result (IsFitCheck monitor kept fit)
check_some certified_fit monitor kept fit question result made told =
    by_result result (subst (λ (one : Formula). IfOk result (λ accepted. IsTrue accepted ↔ Refutes one fit.cert)) (sym parts.1) told)
  where
    own : Formula
    own = outside_question monitor kept fit.block

    parts : (is_made_within monitor kept fit.block ≡ true) × (own ≡ question)
    parts = within_some (is_made_within monitor kept fit.block) own question made

    by_result : (result : Result Bool AllocError) → IfOk result (λ accepted. IsTrue accepted ↔ Refutes own fit.cert) → IfOk result (IsFitCheck monitor kept fit)
    by_result (Ok true) told =
        let refutes : Refutes own fit.cert = told.0 refl in
        record { refutes = refutes; made = parts.0; fits = certified_fit monitor kept fit.block fit.cert refutes }
    by_result (Ok false) told = inl (λ proof. false≢true (told.1 proof))
    by_result (Err fault) told = tt

pub check_none : (monitor : MonitorParts) (kept : List Candidate) (fit : Fit)
    → value_if (is_made_within monitor kept fit.block) (outside_question monitor kept fit.block) ≡ None → IsOpenFit monitor kept fit
check_none monitor kept fit none = inr (within_none (is_made_within monitor kept fit.block) (outside_question monitor kept fit.block) none)

-- ---- one after the other

there : (fits : List Fit) (place : ℕ) (fit d : Fit) → place < length fits → fit ≡ get_or fits place d → slice_get fits place ≡ Some fit
there fits place fit d low is = slice_get-get_or fits place d low ∙ ap {B = Option Fit} (λ (one : Fit). Some one) (sym is)

pub open_here : (monitor : MonitorParts) (kept : List Candidate) (fits : List Fit) (place : ℕ) (fit d : Fit) (result : Bool) → place < length fits → fit ≡ get_or fits place d
    → IsFitCheck monitor kept fit result → result ≡ false → All (IsFit monitor kept) (take place fits) → IsFirstOpenFit monitor kept fits (Some place)
open_here monitor kept fits place fit d result low is told fails before = (
  before,
  subst (λ (o : Option Fit). IsSomeAnd o (IsOpenFit monitor kept)) (sym (there fits place fit d low is)) (subst (IsFitCheck monitor kept fit) fails told),
)

pub fits_more : (monitor : MonitorParts) (kept : List Candidate) (fits : List Fit) (place : ℕ) (fit d : Fit) (result : Bool) → place < length fits → fit ≡ get_or fits place d
    → IsFitCheck monitor kept fit result → result ≡ true → All (IsFit monitor kept) (take place fits) → All (IsFit monitor kept) (take (place + 1) fits)
fits_more monitor kept fits place fit d result low is told passes before =
    one_more_at (IsFit monitor kept) fits place fit (there fits place fit d low is) before (subst (IsFitCheck monitor kept fit) passes told)

pub all_fit : (monitor : MonitorParts) (kept : List Candidate) (fits : List Fit) (place : ℕ) → length fits ≤ place
    → All (IsFit monitor kept) (take place fits) → All (IsFit monitor kept) fits
all_fit monitor kept fits place end before = all_taken (IsFit monitor kept) fits place end before

-- ---- what the prover answered is accepted

pub answers_fit : (monitor : MonitorParts) (kept : List Candidate) (answers : List (Option Cert)) → AreFitAnswers monitor kept answers → All (IsFit monitor kept) (certified answers)
answers_fit monitor kept answers are = certified_all (IsFit monitor kept) 0 answers (λ k cert at. subst (λ (block : ℕ). IsFit monitor kept (fit_of block cert)) (own k) (are.each k (Some cert) at))
  where
    own : (k : ℕ) → k ≡ 0 + k
    own k = omega arith

not_both : (monitor : MonitorParts) (kept : List Candidate) (fit : Fit) → IsFit monitor kept fit → IsOpenFit monitor kept fit → ⊥
not_both monitor kept fit is (inl none) = none is.refutes
not_both monitor kept fit is (inr beyond) = false≢true (sym beyond ∙ is.made)

pub none_open : (monitor : MonitorParts) (kept : List Candidate) (fits : List Fit) (found : Option ℕ) → All (IsFit monitor kept) fits → IsFirstOpenFit monitor kept fits found → found ≡ None
none_open monitor kept fits None all first = refl
none_open monitor kept fits (Some place) all first = absurd (by_held (slice_get fits place) refl first.1)
  where
    by_held : (held : Option Fit) → slice_get fits place ≡ held → IsSomeAnd held (IsOpenFit monitor kept) → ⊥
    by_held None is here = here
    by_held (Some fit) is here = not_both monitor kept fit (all_at (IsFit monitor kept) fits place fit is all) here

pub answers_accepted : (monitor : MonitorParts) (kept : List Candidate) (answers : List (Option Cert)) (found : Option ℕ) → AreFitAnswers monitor kept answers
    → IsFirstOpenFit monitor kept (certified answers) found → found ≡ None
answers_accepted monitor kept answers found are first = none_open monitor kept (certified answers) found (answers_fit monitor kept answers are) first

-- ---- why blocks may leave 64 bits

pushed_at : {X : Type 0} (found : List X) (last : X) (number : ℕ) (other : X) → slice_get (found ++ last ∷ []) number ≡ Some other
    → (slice_get found number ≡ Some other) ⊎ ((number ≡ length found) × (other ≡ last))
pushed_at [] last zero other at = inr (refl, sym (same_Some last other at))
pushed_at [] last (suc number) other at = absurd (none-some other at)
pushed_at (first ∷ found) last zero other at = inl at
pushed_at (first ∷ found) last (suc number) other at = elim (pushed_at found last number other at) [
  | inl before ↦ inl before
  | inr here ↦ inr (ap suc here.0, here.1)
]

-- so many reasons, each of its block
abbrev pub AreSoFar : MonitorParts → List Candidate → List FitReason → ℕ → Type 0
AreSoFar monitor kept found block =
    (length found ≡ block) × ((number : ℕ) (reason : FitReason) → slice_get found number ≡ Some reason → IsFitReason monitor kept number reason)

pub one_more_reason : (monitor : MonitorParts) (kept : List Candidate) (found now : List FitReason) (reason : FitReason) (block : ℕ) → AreSoFar monitor kept found block
    → IsFitReason monitor kept block reason → now ≡ found ++ reason ∷ [] → AreSoFar monitor kept now (block + 1)
one_more_reason monitor kept found now reason block far is grown =
    subst (λ (all : List FitReason). AreSoFar monitor kept all (block + 1)) (sym grown) (length_push found reason ∙ ap (λ (n : ℕ). n + 1) far.0, each)
  where
    each : (number : ℕ) (other : FitReason) → slice_get (found ++ reason ∷ []) number ≡ Some other → IsFitReason monitor kept number other
    each number other at = elim (pushed_at found reason number other at) [
      | inl before ↦ far.1 number other before
      | inr last ↦ subst (λ (one : FitReason). IsFitReason monitor kept number one) (sym last.1) (subst (λ (n : ℕ). IsFitReason monitor kept n reason) (sym (last.0 ∙ far.0)) is)
    ]
