-- Plan files: which hold a plan of a monitor, what is found of it, and which line refuses others.
use Rattle.std.specs.Prelude.{◌≡◌, ◌<◌, ◌≤◌, ◌⊎◌, ℕ, Bool, true, false, List, Option, Some, None}
use Rattle.std.specs.Prelude.{length}
use Rattle.lang_tree.specs.declared.tree.MonitorTree.{MonitorTree}
use Rattle.lang_monitor.specs.MonitorParts.{MonitorParts}
use Rattle.machine_events.specs.declared.plan.Plan.{Plan}
use Rattle.report_proofs.specs.Readings.{IsPlanRead}
use Rattle.report_audit.specs.declared.finding.Finding.{Finding}
use Rattle.report_audit.specs.declared.finding.Finding.TheVariants as findings
use Rattle.report_audit.specs.CountedFindings.{IsFindingBy}
use Rattle.report_audit.specs.FindingText.{finding_text}
use Rattle.plan_why.specs.declared.failing.Failure.{Failure}
use Rattle.report_failures.specs.FailureText.{failing_finding_text}
use Rattle.report_failures.specs.FindingFailures.{IsFindingFailure}
use Rattle.report_text.specs.FaultText.{not_plan_text, other_too_long_text}
use Rattle.expresso_answers.specs.ReportFiles.{OTHER_BYTES}

-- the bytes are those of a file with the text of this plan of the monitor
pub record IsPlanFile (bytes : List ℕ) (monitor : MonitorParts) (plan : Plan) : Type 0 where
  pub short : length bytes ≤ OTHER_BYTES
  pub read : IsPlanRead monitor bytes (Some plan)

-- Below, the signals of a plan may be counted or not.

-- a plan's file of which nothing may be found but that the plan is lawful; so it is where the plan
-- is lawful and no claim of the monitor is hard
pub record IsAudited (count : Bool) (bytes : List ℕ) (monitor : MonitorParts) (plan : Plan) :
    Type 0 where
  pub is : IsPlanFile bytes monitor plan
  pub only : (finding : Finding) → IsFindingBy count monitor plan finding
      → finding ≡ findings.Lawful

-- a plan's file of which it may be found that the plan is lawful; then it is
pub record MayBeLawful (count : Bool) (bytes : List ℕ) (monitor : MonitorParts) (plan : Plan) :
    Type 0 where
  pub is : IsPlanFile bytes monitor plan
  pub lawful : IsFindingBy count monitor plan findings.Lawful

-- what was found is right of the claim or the question that a finding names; where signals aren't
-- counted nothing is looked for
abbrev pub IsFailureBy : Bool → MonitorParts → Plan → Finding → Option Failure → Type 0
IsFailureBy false monitor plan finding failure = failure ≡ None
IsFailureBy true monitor plan finding failure = IsFindingFailure monitor plan finding failure

-- ---- lines

-- the line of a finding; where signals may be counted, then that of what was found of the claim or
-- the question that it names
abbrev pub audit_text : Bool → MonitorTree → MonitorParts → Plan → Finding → Option Failure
    → List ℕ
audit_text false tree monitor plan finding failure = finding_text monitor plan finding
audit_text true tree monitor plan finding failure =
    failing_finding_text tree monitor plan finding failure

-- the line that says that the plan of a file is lawful
pub record IsLawfulLine (count : Bool) (monitor : MonitorParts) (bytes text : List ℕ) : Type 0
  where
    pub plan : Plan
    pub found : MayBeLawful count bytes monitor plan
    pub printed : text ≡ finding_text monitor plan findings.Lawful

-- the line of another finding: of what is kept, of kinds and notes, or of the first claim or
-- question without a certificate; where signals may be counted, one more says why it has none
pub record IsFindingLine (count : Bool) (tree : MonitorTree) (monitor : MonitorParts)
    (bytes text : List ℕ) : Type 0 where
  pub plan : Plan
  pub finding : Finding
  pub failure : Option Failure
  pub is : IsPlanFile bytes monitor plan
  pub found : IsFindingBy count monitor plan finding
  pub other : finding ≡ findings.Lawful → ⊥
  pub why : IsFailureBy count monitor plan finding failure
  pub printed : text ≡ audit_text count tree monitor plan finding failure

-- the line that refuses a file: it is too long; or its bytes are no plan of the monitor; or another
-- thing was found of the plan that they are
abbrev pub IsPlanRefusalLine : Bool → MonitorTree → MonitorParts → List ℕ → List ℕ → List ℕ → Type 0
IsPlanRefusalLine count tree monitor file bytes text =
    ((OTHER_BYTES < length bytes) × (text ≡ other_too_long_text file))
    ⊎ ((length bytes ≤ OTHER_BYTES) × IsPlanRead monitor bytes None
    × (text ≡ not_plan_text file))
    ⊎ IsFindingLine count tree monitor bytes text
