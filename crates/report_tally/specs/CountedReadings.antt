-- What a reading of a text of a counted report says.
use Rattle.std.specs.Prelude.{◌≡◌, ◌<◌, ◌^◌, ℕ, List, All, Option, Some, None}
use Rattle.lang_monitor.specs.MonitorParts.{MonitorParts}
use Rattle.report_proofs.specs.Readings.{IsReadable}
use Rattle.report_tally.specs.declared.report.CountedReport.{CountedReport}
use Rattle.report_tally.specs.CountedReports.{IsCountedReport, counted_report_text}

-- a number of its type, if there is one
abbrev pub IsTypedRow : Option ℕ → Type 0
IsTypedRow None = Unit {0}
IsTypedRow (Some row) = row < 2 ^ 32

-- a report whose rows are numbers of their type, with readable certificates
pub record IsReadableReport (monitor : MonitorParts) (report : CountedReport) : Type 0 where
  pub is : IsCountedReport monitor report
  pub rows : All IsTypedRow report.counted
  pub proofs : All IsReadable report.proofs
  pub answers : All IsReadable report.answers

-- the bytes are the text of this readable report, and of no other
pub record IsTextOfCounted (monitor : MonitorParts) (bytes : List ℕ) (report : CountedReport) :
    Type 0 where
  pub is : IsReadableReport monitor report
  pub text : counted_report_text monitor report ≡ bytes
  pub only : (other : CountedReport) → IsReadableReport monitor other
      → counted_report_text monitor other ≡ bytes → other ≡ report

-- the readable report whose text the bytes are; there is none
abbrev pub IsCountedRead : MonitorParts → List ℕ → Option CountedReport → Type 0
IsCountedRead monitor bytes (Some report) = IsTextOfCounted monitor bytes report
IsCountedRead monitor bytes None =
    (report : CountedReport) → IsReadableReport monitor report
    → counted_report_text monitor report ≡ bytes → ⊥
