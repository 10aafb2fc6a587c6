-- Report files: which are reports of a monitor, with or without lines of blocks that keep 64 bits,
-- which of them are accepted, and which line refuses the others.
use Rattle.std.specs.Prelude.{◌≡◌, ◌<◌, ◌≤◌, ◌⊎◌, ℕ, ◌+◌, List, ◌++◌, All, Some, None, length}
use Rattle.lang_monitor.specs.MonitorParts.{MonitorParts}
use Rattle.report_verdict.specs.declared.report.Verdict.{Verdict}
use Rattle.report_verdict.specs.declared.report.Verdict.TheVariants as verdicts
use Rattle.report_proofs.specs.ReportTexts.{verdict_text}
use Rattle.report_verdict.specs.Verdicts.{plan_lines}
use Rattle.report_tally.specs.declared.report.CountedReport.{CountedReport}
use Rattle.report_tally.specs.CountedReadings.{IsCountedRead}
use Rattle.report_tally.specs.CountedVerdicts.{IsCountedAccepted, IsCountedVerdict}
use Rattle.report_fits.specs.declared.fit.Fit.{Fit}
use Rattle.report_fits.specs.FitParts.{AreParts}
use Rattle.report_fits.specs.FitReadings.{AreFitsRead}
use Rattle.report_fits.specs.FitVerdicts.{IsFirstOpenFit, IsFit, fitting_text}
use Rattle.report_text.specs.FaultText.{not_report_text, other_too_long_text}

-- the most bytes of a file that is no monitor and no clients
abbrev pub OTHER_BYTES : ℕ
OTHER_BYTES = 16777216

-- Below, a report is a counted one. A plain report, of a plan none of whose conditions is counted,
-- is one of these, with the same text, and is read and judged as itself (`reports_are_uncounted`).

-- the bytes are those of a file with the text of this report of the monitor, up to the first line
-- that begins with `proof fits `
pub record IsReportFile (bytes : List ℕ) (monitor : MonitorParts) (report : CountedReport) : Type 0
  where
    pub short : length bytes ≤ OTHER_BYTES
    pub front : List ℕ
    pub rest : List ℕ
    pub parts : AreParts bytes front rest
    pub read : IsCountedRead monitor front (Some report)

-- a report's file whose report is accepted: its plan is lawful, or by counting where some condition
-- is counted, and each certificate refutes the negated query of its claim or question; and after
-- it are the lines of these blocks, each of which keeps 64 bits wherever the kept candidates hold,
-- by its certificate
pub record IsRechecked (bytes : List ℕ) (monitor : MonitorParts) (report : CountedReport) : Type 0
  where
    pub is : IsReportFile bytes monitor report
    pub accepted : IsCountedAccepted monitor report
    pub fits : List Fit
    pub lines : AreFitsRead monitor is.rest (Some fits)
    pub fitting : All (IsFit monitor report.plan.kept) fits

-- how many certificates a report has
abbrev pub many_certs : CountedReport → ℕ
many_certs report = length report.proofs + length report.answers

-- ---- lines

-- the line that accepts a report, with the number of its certificates, and one that names the
-- blocks after it, if there are any
pub record IsAcceptanceLine (monitor : MonitorParts) (bytes text : List ℕ) : Type 0 where
  pub report : CountedReport
  pub rechecked : IsRechecked bytes monitor report
  pub printed : text ≡ verdict_text (verdicts.Accepted (many_certs report))
      ++ fitting_text monitor rechecked.fits

-- the verdict is that the report is accepted
abbrev pub IsAcceptance : Verdict → Type 0
IsAcceptance (verdicts.Accepted claims) = Unit {0}
IsAcceptance verdict = ⊥

-- a report is rejected: its plan, or its first claim or question that is open
pub record IsReportRejected (monitor : MonitorParts) (bytes : List ℕ) (verdict : Verdict) :
    Type 0 where
  pub report : CountedReport
  pub is : IsReportFile bytes monitor report
  pub found : IsCountedVerdict monitor report verdict
  pub rejected : IsAcceptance verdict → ⊥

-- the report is accepted, and the first of the lines after it that is open is rejected
pub record IsFitRejected (monitor : MonitorParts) (bytes : List ℕ) (verdict : Verdict) :
    Type 0 where
  pub report : CountedReport
  pub is : IsReportFile bytes monitor report
  pub accepted : IsCountedAccepted monitor report
  pub fits : List Fit
  pub lines : AreFitsRead monitor is.rest (Some fits)
  pub place : ℕ
  pub open_there : IsFirstOpenFit monitor report.plan.kept fits (Some place)
  pub verdict_is : verdict
      ≡ verdicts.Unproved (plan_lines monitor report.plan + (many_certs report + place + 1))

abbrev pub IsRejected : MonitorParts → List ℕ → Verdict → Type 0
IsRejected monitor bytes verdict =
    IsReportRejected monitor bytes verdict ⊎ IsFitRejected monitor bytes verdict

-- the line that says so
pub record IsRejectionLine (monitor : MonitorParts) (bytes text : List ℕ) : Type 0 where
  pub verdict : Verdict
  pub is : IsRejected monitor bytes verdict
  pub printed : text ≡ verdict_text verdict

-- the bytes up to the first line that begins with `proof fits ` are no report of the monitor; or
-- they are one that is accepted, and the others are no lines of blocks that keep 64 bits
pub record IsNoReport (monitor : MonitorParts) (bytes : List ℕ) : Type 0 where
  pub front : List ℕ
  pub rest : List ℕ
  pub parts : AreParts bytes front rest
  pub none : IsCountedRead monitor front None
      ⊎ ((report : CountedReport) × IsCountedRead monitor front (Some report)
      × IsCountedAccepted monitor report × AreFitsRead monitor rest None)

-- the line that refuses a file: it is too long; or its bytes are no report of the monitor; or the
-- report that they are, or a line after it, is rejected
abbrev pub IsReportRefusalLine : MonitorParts → List ℕ → List ℕ → List ℕ → Type 0
IsReportRefusalLine monitor file bytes text =
    ((OTHER_BYTES < length bytes) × (text ≡ other_too_long_text file))
    ⊎ ((length bytes ≤ OTHER_BYTES) × IsNoReport monitor bytes × (text ≡ not_report_text file))
    ⊎ IsRejectionLine monitor bytes text
