-- `report` prints the certificates of the plan of a run, where no claim is hard.
use Rattle.std.proofs.Common.{◌≡◌, ℕ, List, Option, sym, subst}
use Rattle.lang_monitor.specs.MonitorParts.{MonitorParts}
use Rattle.machine_events.specs.declared.plan.Plan.{Plan}
use Rattle.plan_claims.specs.Backing.{AreProofs, backed_claims}
use Rattle.front_command.specs.declared.plan_choice.PlanChoice.{PlanChoice}
use Rattle.expresso_answers.specs.declared.status.Status.{Status}
use Rattle.expresso_answers.specs.MonitorFiles.{IsAccepted}
use Rattle.expresso_answers.specs.Placements.{IsPlacement}
use Rattle.expresso.specs.ReportedRuns.{AreRunAndReport}
use Rattle.expresso_answers.proofs.FirstFaults.{OneSpelling, OneTree}
use Rattle.expresso_answers.proofs.OneMonitor.{one_monitor}
use Rattle.expresso_runs.proofs.OneSimulation.{OneExactPlan}
use Rattle.expresso_answers.proofs.Telling.{holds_same}

module _ (one_spelling : OneSpelling) (one_tree : OneTree) (one_exact : OneExactPlan) (choice : PlanChoice) (status : Status) (held : List ℕ → Option (List ℕ)) (file clients_bytes text report_text : List ℕ)
    (is : AreRunAndReport choice status held file clients_bytes text report_text) where
  same_monitor : is.run.monitor ≡ is.report.monitor
  same_monitor =
      let bytes = holds_same held file is.bytes is.report.holds.bytes is.same is.report.holds.told in
      one_monitor one_spelling one_tree is.bytes is.run.tree is.report.tree is.run.monitor is.report.monitor is.run.monitor_accepted
      (subst (λ (b : List ℕ). IsAccepted b is.report.tree is.report.monitor) bytes is.report.holds.accepted)

  -- the plan of the report, as one of the monitor of the run
  reported : IsPlacement is.run.monitor is.report.placed.plan
  reported = subst (λ (monitor : MonitorParts). IsPlacement monitor is.report.placed.plan) (sym same_monitor) is.report.placement

  pub same_plan : is.run.placed ≡ is.report.placed.plan
  same_plan = one_exact is.run.monitor is.run.placed is.report.placed.plan is.run.placed_fits reported.fits (is.run.exact is.easy) (reported.exact is.easy)

  pub same_proofs : AreProofs is.run.monitor is.run.placed.kept (backed_claims is.run.monitor is.run.placed) is.report.placed.proofs
  same_proofs =
      subst (λ (plan : Plan). AreProofs is.run.monitor plan.kept (backed_claims is.run.monitor plan) is.report.placed.proofs) (sym same_plan)
      (subst (λ (monitor : MonitorParts). AreProofs monitor is.report.placed.plan.kept (backed_claims monitor is.report.placed.plan) is.report.placed.proofs) (sym same_monitor) is.report.proofs)
