-- What a check of a counted report says.
use Rattle.std.specs.Prelude.{◌≡◌, ◌⊎◌, ℕ, ◌+◌, true, false, List, length, take, All, slice_get}
use Rattle.std.specs.Prelude.{IsSomeAnd, None}
use Rattle.logic_cert.specs.declared.cert.Cert.{Cert}
use Rattle.logic_cert.specs.Refutes.{Refutes}
use Rattle.lang_monitor.specs.declared.candidate.Candidate.{Candidate}
use Rattle.lang_monitor.specs.MonitorParts.{MonitorParts}
use Rattle.machine_events.specs.Counts.{IsLawfulByCounting}
use Rattle.machine_events.specs.Plans.{FitsPlan, IsLawful}
use Rattle.logic_wp.specs.Limits.{is_query_within}
use Rattle.logic_wp.specs.NegatedQueries.{negated_query}
use Rattle.plan_count.specs.declared.question.Question.{Question}
use Rattle.plan_count.specs.Questions.{question_query}
use Rattle.report_verdict.specs.declared.report.Verdict.{Verdict}
use Rattle.report_verdict.specs.declared.report.Verdict.TheVariants as verdicts
use Rattle.report_verdict.specs.Verdicts.{AreChecked, IsLawfulAtSight, IsOpen, plan_lines}
use Rattle.report_tally.specs.declared.report.CountedReport.{CountedReport}
use Rattle.report_tally.specs.CountedReports.{answers_of, owed_proofs}

-- ---- answers

-- the certificate refutes the negated query of the question
abbrev pub IsAnswer : MonitorParts → List Candidate → Question × Cert → Type 0
IsAnswer monitor kept one =
    Refutes (negated_query monitor (question_query monitor kept one.0)) one.1

-- it does so, and the query is negated within the limits
abbrev pub IsAnswered : MonitorParts → List Candidate → Question × Cert → Type 0
IsAnswered monitor kept one =
    IsAnswer monitor kept one
    × (is_query_within monitor (question_query monitor kept one.0) ≡ true)

-- it doesn't, or the query isn't
abbrev pub IsUnanswered : MonitorParts → List Candidate → Question × Cert → Type 0
IsUnanswered monitor kept one =
    (IsAnswer monitor kept one → ⊥)
    ⊎ (is_query_within monitor (question_query monitor kept one.0) ≡ false)

-- ---- verdicts

-- the plan fits the monitor, is lawful by counting, and lawful where no condition is counted; and
-- each certificate is checked
pub record IsCountedAccepted (monitor : MonitorParts) (report : CountedReport) : Type 0 where
  pub fits : FitsPlan monitor report.plan
  pub lawful : IsLawfulByCounting monitor report.plan
  pub plain : All (λ row. row ≡ None) report.counted → IsLawful monitor report.plan
  pub proofs : AreChecked monitor report.plan.kept (owed_proofs monitor report)
  pub answers : All (IsAnswered monitor report.plan.kept) (answers_of monitor report)

-- the line of the report's text whose claim is the first one open
pub record IsClaimOpen (monitor : MonitorParts) (report : CountedReport) (line : ℕ) : Type 0 where
  pub place : ℕ
  pub line_is : line ≡ plan_lines monitor report.plan + (place + 1)
  pub before : AreChecked monitor report.plan.kept (take place (owed_proofs monitor report))
  pub here : IsSomeAnd (slice_get (owed_proofs monitor report) place)
      (IsOpen monitor report.plan.kept)

-- the line of the report's text whose question is the first one unanswered, and no claim is open
pub record IsQuestionOpen (monitor : MonitorParts) (report : CountedReport) (line : ℕ) :
    Type 0 where
  pub proofs : AreChecked monitor report.plan.kept (owed_proofs monitor report)
  pub place : ℕ
  pub line_is : line ≡ plan_lines monitor report.plan + (length report.proofs + place + 1)
  pub before : All (IsAnswered monitor report.plan.kept)
      (take place (answers_of monitor report))
  pub here : IsSomeAnd (slice_get (answers_of monitor report) place)
      (IsUnanswered monitor report.plan.kept)

-- the plan is lawful at sight, and on the line stands the first certificate that fails
abbrev pub IsUnproved : MonitorParts → CountedReport → ℕ → Type 0
IsUnproved monitor report line =
    IsLawfulAtSight monitor report.plan
    × (IsClaimOpen monitor report line ⊎ IsQuestionOpen monitor report line)

-- what a verdict says of a counted report
abbrev pub IsCountedVerdict : MonitorParts → CountedReport → Verdict → Type 0
IsCountedVerdict monitor report (verdicts.Accepted certs) =
    IsCountedAccepted monitor report × (certs ≡ length report.proofs + length report.answers)
IsCountedVerdict monitor report verdicts.Unlawful = IsLawfulAtSight monitor report.plan → ⊥
IsCountedVerdict monitor report (verdicts.Unproved line) = IsUnproved monitor report line
