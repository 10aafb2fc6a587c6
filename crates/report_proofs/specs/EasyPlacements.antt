-- Placed plans whose printed report is accepted.
use Rattle.std.specs.Prelude.{All}
use Rattle.lang_monitor.specs.MonitorParts.{MonitorParts, IsMonitor}
use Rattle.machine_events.specs.Plans.{FitsPlan, IsLawful}
use Rattle.plan_prune.specs.Hardness.{HasNoHardClaim}
use Rattle.plan_claims.specs.declared.placed.PlacedPlan.{PlacedPlan}
use Rattle.plan_claims.specs.Backing.{AreProofs, backed_claims}
use Rattle.logic_outline.specs.Outlines.{HasTypedNumbers}

-- No claim of the monitor is hard, and the lawful plan was placed with a proof of each claim that
-- it rests on.
pub record IsEasyPlacement (monitor : MonitorParts) (placed : PlacedPlan) : Type 0 where
  pub is : IsMonitor monitor
  pub easy : HasNoHardClaim monitor
  pub fits : FitsPlan monitor placed.plan
  pub lawful : IsLawful monitor placed.plan
  pub proofs : AreProofs monitor placed.plan.kept (backed_claims monitor placed.plan) placed.proofs
  pub typed : All (λ proof. HasTypedNumbers proof.cert) placed.proofs
