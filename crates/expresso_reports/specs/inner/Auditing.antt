-- What is said of the bytes of a plan's file.
use Rattle.std.specs.Prelude.{ℕ, Bool, List, Option, Some, None}
use Rattle.lang_tree.specs.declared.tree.MonitorTree.{MonitorTree}
use Rattle.lang_monitor.specs.MonitorParts.{MonitorParts}
use Rattle.report_proofs.specs.Readings.{IsPlanRead}
use Rattle.report_audit.specs.declared.finding.Finding.{Finding}
use Rattle.report_audit.specs.declared.finding.Finding.TheVariants as findings
use Rattle.report_audit.specs.CountedFindings.{IsFindingBy}
use Rattle.report_text.specs.FaultText.{not_plan_text}
use Rattle.expresso_reports.specs.declared.audit.Found.{Found}
use Rattle.expresso_answers.specs.declared.status.Status.{Status}
use Rattle.expresso_answers.specs.declared.status.Status.TheVariants as statuses
use Rattle.expresso_answers.specs.PlanFiles.{IsFailureBy, audit_text}

-- the plan that the bytes are, what is found of it, and a failure of what that names, where signals
-- may be counted or not
pub record IsPlanFound (count : Bool) (monitor : MonitorParts) (bytes : List ℕ) (found : Found) :
    Type 0 where
  pub read : IsPlanRead monitor bytes (Some found.plan)
  pub is : IsFindingBy count monitor found.plan found.finding
  pub why : IsFailureBy count monitor found.plan found.finding found.failure

-- that, or the bytes are none
abbrev pub IsFound : Bool → MonitorParts → List ℕ → Option Found → Type 0
IsFound count monitor bytes (Some found) = IsPlanFound count monitor bytes found
IsFound count monitor bytes None = IsPlanRead monitor bytes None

-- the status of a finding
abbrev pub audit_status : Finding → Status
audit_status findings.Lawful = statuses.Done
audit_status finding = statuses.Refused

-- the status and the lines of what was found
abbrev pub found_status : Option Found → Status
found_status (Some found) = audit_status found.finding
found_status None = statuses.Refused

abbrev pub found_text : Bool → MonitorTree → MonitorParts → List ℕ → Option Found → List ℕ
found_text count tree monitor file (Some found) =
    audit_text count tree monitor found.plan found.finding found.failure
found_text count tree monitor file None = not_plan_text file
