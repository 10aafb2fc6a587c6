-- What is said of the bytes of a report's file.
use Rattle.std.specs.Prelude.{◌≡◌, ◌⊎◌, ◌++◌, ◌+◌, ℕ, List, All, Some, None}
use Rattle.lang_monitor.specs.MonitorParts.{MonitorParts}
use Rattle.report_verdict.specs.declared.report.Verdict.{Verdict}
use Rattle.report_verdict.specs.declared.report.Verdict.TheVariants as verdicts
use Rattle.report_proofs.specs.ReportTexts.{verdict_text}
use Rattle.report_verdict.specs.Verdicts.{plan_lines}
use Rattle.report_tally.specs.declared.report.CountedReport.{CountedReport}
use Rattle.report_tally.specs.CountedVerdicts.{IsCountedVerdict}
use Rattle.report_fits.specs.declared.fit.Fit.{Fit}
use Rattle.report_fits.specs.FitReadings.{AreFitsRead}
use Rattle.report_fits.specs.FitVerdicts.{IsFirstOpenFit, IsFit, fitting_text}
use Rattle.report_text.specs.FaultText.{not_report_text}
use Rattle.expresso_answers.specs.declared.status.Status.{Status}
use Rattle.expresso_answers.specs.declared.status.Status.TheVariants as statuses
use Rattle.expresso_reports.specs.declared.recheck.Judgement.{Judgement}
use Rattle.expresso_reports.specs.declared.recheck.Judgement.TheVariants as judgements
use Rattle.expresso_answers.specs.ReportFiles.{IsAcceptance, IsNoReport, IsRechecked, IsRejected}
use Rattle.expresso_answers.specs.ReportFiles.{many_certs}

-- a report whose certificates are these many is accepted, with these blocks
pub record IsAcceptedWith (monitor : MonitorParts) (bytes : List ℕ) (certs : ℕ) (fits : List Fit) :
    Type 0 where
  pub report : CountedReport
  pub rechecked : IsRechecked bytes monitor report
  pub same_fits : rechecked.fits ≡ fits
  pub many : certs ≡ many_certs report

-- what was found of the bytes
abbrev pub IsJudgement : MonitorParts → List ℕ → Judgement → Type 0
IsJudgement monitor bytes (judgements.Accepted certs fits) =
    IsAcceptedWith monitor bytes certs fits
IsJudgement monitor bytes (judgements.Rejected verdict) = IsRejected monitor bytes verdict
IsJudgement monitor bytes judgements.NoReport = IsNoReport monitor bytes

-- what was found of the lines of these blocks, after an accepted report with these many
-- certificates
abbrev pub IsFitsCheck : MonitorParts → CountedReport → ℕ → List Fit → Judgement → Type 0
IsFitsCheck monitor report certs fits (judgements.Accepted many found) =
    (many ≡ certs) × (found ≡ fits) × All (IsFit monitor report.plan.kept) fits
IsFitsCheck monitor report certs fits (judgements.Rejected verdict) =
    (place : ℕ) × IsFirstOpenFit monitor report.plan.kept fits (Some place)
    × (verdict ≡ verdicts.Unproved (plan_lines monitor report.plan
    + (many_certs report + place + 1)))
IsFitsCheck monitor report certs fits judgements.NoReport = ⊥

-- what was found of the bytes after such a report: they are the lines of some blocks, or of none
abbrev pub IsRestJudged : MonitorParts → CountedReport → ℕ → List ℕ → Judgement → Type 0
IsRestJudged monitor report certs bytes found =
    ((fits : List Fit) × AreFitsRead monitor bytes (Some fits)
    × IsFitsCheck monitor report certs fits found)
    ⊎ (AreFitsRead monitor bytes None × (found ≡ judgements.NoReport))

-- what was found of a report, and of the bytes after it
abbrev pub IsReportJudged : MonitorParts → CountedReport → List ℕ → Judgement → Type 0
IsReportJudged monitor report rest found =
    ((certs : ℕ) × IsCountedVerdict monitor report (verdicts.Accepted certs)
    × IsRestJudged monitor report certs rest found)
    ⊎ ((verdict : Verdict) × IsCountedVerdict monitor report verdict
    × (IsAcceptance verdict → ⊥) × (found ≡ judgements.Rejected verdict))

-- the status and the lines of what was found
abbrev pub judgement_status : Judgement → Status
judgement_status (judgements.Accepted certs fits) = statuses.Done
judgement_status (judgements.Rejected verdict) = statuses.Refused
judgement_status judgements.NoReport = statuses.Refused

abbrev pub judgement_text : MonitorParts → List ℕ → Judgement → List ℕ
judgement_text monitor file (judgements.Accepted certs fits) =
    verdict_text (verdicts.Accepted certs) ++ fitting_text monitor fits
judgement_text monitor file (judgements.Rejected verdict) = verdict_text verdict
judgement_text monitor file judgements.NoReport = not_report_text file
