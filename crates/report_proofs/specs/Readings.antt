-- What a reading of a text of a plan or of a report says.
use Rattle.std.specs.Prelude.{◌≡◌, ℕ, List, All, Option, Some, None}
use Rattle.logic_cert.specs.declared.cert.Cert.{Cert}
use Rattle.logic_outline.specs.Outlines.{HasTypedNumbers}
use Rattle.lang_monitor.specs.MonitorParts.{MonitorParts}
use Rattle.machine_events.specs.declared.plan.Plan.{Plan}
use Rattle.machine_events.specs.PlanText.{plan_text}
use Rattle.report_verdict.specs.declared.report.Report.{Report}
use Rattle.report_proofs.specs.ReportTexts.{report_text}
use Rattle.report_verdict.specs.Reports.{IsPlanOf, IsReport}

-- the bytes are the text of this plan of the monitor, and of no other
pub record IsTextOfPlan (monitor : MonitorParts) (bytes : List ℕ) (plan : Plan) : Type 0 where
  pub is : IsPlanOf monitor plan
  pub text : plan_text monitor plan ≡ bytes
  pub only : (other : Plan) → IsPlanOf monitor other → plan_text monitor other ≡ bytes
      → other ≡ plan

-- the plan whose text the bytes are; there is none
abbrev pub IsPlanRead : MonitorParts → List ℕ → Option Plan → Type 0
IsPlanRead monitor bytes (Some plan) = IsTextOfPlan monitor bytes plan
IsPlanRead monitor bytes None =
    (plan : Plan) → IsPlanOf monitor plan → plan_text monitor plan ≡ bytes → ⊥

-- a certificate with numbers of their types, as each in memory is, however deep it nests
abbrev pub IsReadable : Cert → Type 0
IsReadable cert = HasTypedNumbers cert

-- the bytes are the text of this report with readable certificates, and of no other
pub record IsTextOfReport (monitor : MonitorParts) (bytes : List ℕ) (report : Report) :
    Type 0 where
  pub is : IsReport monitor report
  pub readable : All IsReadable report.proofs
  pub text : report_text monitor report ≡ bytes
  pub only : (other : Report) → IsReport monitor other → All IsReadable other.proofs
      → report_text monitor other ≡ bytes → other ≡ report

-- the report with readable certificates whose text the bytes are; there is none
abbrev pub IsReportRead : MonitorParts → List ℕ → Option Report → Type 0
IsReportRead monitor bytes (Some report) = IsTextOfReport monitor bytes report
IsReportRead monitor bytes None =
    (report : Report) → IsReport monitor report → All IsReadable report.proofs
    → report_text monitor report ≡ bytes → ⊥
