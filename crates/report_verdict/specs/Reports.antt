-- Reports: a plan with one certificate for each claim that it rests on.
use Rattle.std.specs.Prelude.{◌≡◌, ◌≤◌, List, All, length, map}
use Rattle.std.specs.List.{zip}
use Rattle.logic_cert.specs.declared.cert.Cert.{Cert}
use Rattle.lang_monitor.specs.declared.claim.Claim.{Claim}
use Rattle.lang_monitor.specs.Candidates.{AreSomeOf, candidates_of}
use Rattle.lang_monitor.specs.MonitorParts.{MonitorParts}
use Rattle.machine_events.specs.declared.plan.Note.{Note}
use Rattle.machine_events.specs.declared.plan.Plan.{Plan}
use Rattle.machine_events.specs.Rising.{AreRising}
use Rattle.plan_claims.specs.declared.placed.PlacedPlan.{PlacedPlan}
use Rattle.plan_claims.specs.Backing.{backed_claims}
use Rattle.report_verdict.specs.declared.report.Report.{Report}

-- ---- plans of a monitor, lawful or not

-- a note is on a condition that there is
abbrev pub IsOnCondition : MonitorParts → Note → Type 0
IsOnCondition monitor note = (1 ≤ note.condition) × (note.condition ≤ length monitor.conditions)

-- the notes of a block
pub record AreNotesOf (monitor : MonitorParts) (notes : List Note) : Type 0 where
  pub rising : AreRising notes
  pub each : All (IsOnCondition monitor) notes

-- Kept candidates are the monitor's, in their order, each at most once; each condition has a kind,
-- and each block notes. A lawful plan has no tested note on a condition whose guard reads inputs;
-- one of these may.
pub record IsPlanOf (monitor : MonitorParts) (plan : Plan) : Type 0 where
  pub kept : AreSomeOf plan.kept (candidates_of monitor)
  pub kinds : length plan.kinds ≡ length monitor.conditions
  pub notes : length plan.notes ≡ length monitor.blocks
  pub each : All (AreNotesOf monitor) plan.notes

-- ---- reports

-- the plan is one of the monitor, and each claim that it rests on has one certificate
pub record IsReport (monitor : MonitorParts) (report : Report) : Type 0 where
  pub plan : IsPlanOf monitor report.plan
  pub each : length report.proofs ≡ length (backed_claims monitor report.plan)

-- each claim with its certificate, in the order of the claims
abbrev pub proofs_of : MonitorParts → Report → List (Claim × Cert)
proofs_of monitor report = zip (backed_claims monitor report.plan) report.proofs

-- ---- reports of plans that were placed

-- the report of a plan with a proof of each claim
abbrev pub report_of : PlacedPlan → Report
report_of placed =
    record { plan = placed.plan; proofs = map (λ proof. proof.cert) placed.proofs }
