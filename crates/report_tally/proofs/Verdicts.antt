-- What was found of claims, questions and certificates is found of the report.
use Rattle.std.proofs.Common.{◌≡◌, ℕ, ◌+◌, true, List, length, Option, Some, None, inl, inr, sym, ap, subst, ◌∙◌}
use Rattle.std.specs.Prelude.{All}
use Rattle.std.specs.List.{list_all, zip}
use Rattle.std.proofs.lemmas.List.Elements.{All-filter}
use Rattle.logic_cert.specs.declared.cert.Cert.{Cert}
use Rattle.lang_monitor.specs.declared.candidate.Candidate.{Candidate}
use Rattle.lang_monitor.specs.declared.claim.Claim.{Claim}
use Rattle.lang_monitor.specs.MonitorParts.{MonitorParts}
use Rattle.logic_wp.specs.Expressible.{is_expressible}
use Rattle.logic_wp.specs.PlainClaims.{MayAsk}
use Rattle.plan_claims.specs.Backing.{backed_claims}
use Rattle.plan_count.specs.declared.question.Question.{Question}
use Rattle.report_verdict.specs.Verdicts.{AreChecked, IsFirstOpen, IsLawfulAtSight, plan_lines}
use Rattle.report_verdict.proofs.Askable.{claims_askable}
use Rattle.report_tally.specs.declared.report.CountedReport.{CountedReport}
use Rattle.report_tally.specs.CountedReports.{IsCountedReport, answers_of, is_owed, owed_claims, owed_proofs, owed_questions}
use Rattle.report_tally.specs.CountedVerdicts.{IsAnswered, IsUnproved}
use Rattle.report_tally.specs.inner.Checks.{IsFirstUnanswered}

-- the claims that are owed may be asked
pub claims_may : (monitor : MonitorParts) (report : CountedReport) (wanted : List Claim) → IsCountedReport monitor report
    → list_all is_expressible report.plan.kept ≡ true → wanted ≡ owed_claims monitor report.plan report.counted → All (MayAsk monitor) wanted
claims_may monitor report wanted is passes are =
    subst (All (MayAsk monitor)) (sym are)
    (All-filter (is_owed report.counted) (MayAsk monitor) (backed_claims monitor report.plan) (claims_askable monitor report.plan is.plan passes))

moved : (monitor : MonitorParts) (report : CountedReport) (kept : List Candidate) (wanted : List Claim) (certs : List Cert) (found : Option ℕ)
    → kept ≡ report.plan.kept → wanted ≡ owed_claims monitor report.plan report.counted → certs ≡ report.proofs
    → IsFirstOpen monitor kept (zip wanted certs) found → IsFirstOpen monitor report.plan.kept (owed_proofs monitor report) found
moved monitor report kept wanted certs found is are same first =
    subst (λ (one : List Candidate). IsFirstOpen monitor one (owed_proofs monitor report) found) is
    (subst (λ (all : List Claim). IsFirstOpen monitor kept (zip all report.proofs) found) are
    (subst (λ (all : List Cert). IsFirstOpen monitor kept (zip wanted all) found) same first))

pub claim_open : (monitor : MonitorParts) (report : CountedReport) (kept : List Candidate) (wanted : List Claim) (certs : List Cert) (place line : ℕ)
    → kept ≡ report.plan.kept → wanted ≡ owed_claims monitor report.plan report.counted → certs ≡ report.proofs
    → IsLawfulAtSight monitor report.plan → line ≡ plan_lines monitor report.plan + (place + 1)
    → IsFirstOpen monitor kept (zip wanted certs) (Some place) → IsUnproved monitor report line
claim_open monitor report kept wanted certs place line is are same sight at first =
    let own = moved monitor report kept wanted certs (Some place) is are same first in
    (sight, inl (record { place = place; line_is = at; before = own.0; here = own.1 }))

pub claims_checked : (monitor : MonitorParts) (report : CountedReport) (kept : List Candidate) (wanted : List Claim) (certs : List Cert)
    → kept ≡ report.plan.kept → wanted ≡ owed_claims monitor report.plan report.counted → certs ≡ report.proofs
    → IsFirstOpen monitor kept (zip wanted certs) None → AreChecked monitor report.plan.kept (owed_proofs monitor report)
claims_checked monitor report kept wanted certs is are same none = moved monitor report kept wanted certs None is are same none

turned : (monitor : MonitorParts) (report : CountedReport) (kept : List Candidate) (asked : List Question) (certs : List Cert) (found : Option ℕ)
    → kept ≡ report.plan.kept → asked ≡ owed_questions monitor report.plan report.counted → certs ≡ report.answers
    → IsFirstUnanswered monitor kept (zip asked certs) found → IsFirstUnanswered monitor report.plan.kept (answers_of monitor report) found
turned monitor report kept asked certs found is are same first =
    subst (λ (one : List Candidate). IsFirstUnanswered monitor one (answers_of monitor report) found) is
    (subst (λ (all : List Question). IsFirstUnanswered monitor kept (zip all report.answers) found) are
    (subst (λ (all : List Cert). IsFirstUnanswered monitor kept (zip asked all) found) same first))

pub question_open : (monitor : MonitorParts) (report : CountedReport) (kept : List Candidate) (asked : List Question) (certs : List Cert) (before place line : ℕ)
    → kept ≡ report.plan.kept → asked ≡ owed_questions monitor report.plan report.counted → certs ≡ report.answers
    → IsLawfulAtSight monitor report.plan → AreChecked monitor report.plan.kept (owed_proofs monitor report)
    → before ≡ length report.proofs → line ≡ plan_lines monitor report.plan + (before + place + 1)
    → IsFirstUnanswered monitor kept (zip asked certs) (Some place) → IsUnproved monitor report line
question_open monitor report kept asked certs before place line is are same sight checked many at first =
    let own = turned monitor report kept asked certs (Some place) is are same first in (
      sight,
      inr (record {
        proofs = checked;
        place = place;
        line_is = at ∙ ap (λ (n : ℕ). plan_lines monitor report.plan + (n + place + 1)) many;
        before = own.0;
        here = own.1;
      }),
    )

pub questions_answered : (monitor : MonitorParts) (report : CountedReport) (kept : List Candidate) (asked : List Question) (certs : List Cert)
    → kept ≡ report.plan.kept → asked ≡ owed_questions monitor report.plan report.counted → certs ≡ report.answers
    → IsFirstUnanswered monitor kept (zip asked certs) None → All (IsAnswered monitor report.plan.kept) (answers_of monitor report)
questions_answered monitor report kept asked certs is are same none = turned monitor report kept asked certs None is are same none
