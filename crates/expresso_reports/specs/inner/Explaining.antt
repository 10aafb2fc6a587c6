-- What `explain` finds of a monitor.
use Rattle.std.specs.Prelude.{◌≡◌, List, All, map}
use Rattle.lang_monitor.specs.MonitorParts.{MonitorParts}
use Rattle.machine_events.specs.declared.plan.Plan.{Plan}
use Rattle.plan_why.specs.declared.reason.Reason.{Reason}
use Rattle.plan_why.specs.Reasons.{IsReason}
use Rattle.plan_why.specs.Things.{things_of}
use Rattle.plan_needs.specs.declared.broadcasts.BroadcastReason.{BroadcastReason}
use Rattle.plan_needs.specs.CountedReasons.{IsBroadcastReason, IsCountedReason}
use Rattle.plan_needs.specs.Needs.{broadcasts_of}
use Rattle.front_command.specs.declared.plan_choice.PlanChoice.TheVariants.{Counted}
use Rattle.expresso_answers.specs.Placements.{IsChosen, IsPlacement, table_of}

-- a plan that the monitor is compiled to, and why each thing stands in it that costs something
pub record IsExplained (monitor : MonitorParts) (plan : Plan) (reasons : List Reason) : Type 0 where
  pub placement : IsPlacement monitor plan
  pub things : map (λ reason. reason.thing) reasons ≡ things_of monitor plan
  pub each : All (IsReason monitor plan) reasons

-- that plan counted, why each thing stands in it that costs something, and why the broadcasts of
-- blocks on counted conditions do
pub record IsCountExplained (monitor : MonitorParts) (plan : Plan) (reasons : List Reason)
    (broadcasts : List BroadcastReason) : Type 0 where
  pub chosen : IsChosen Counted monitor plan
  pub things : map (λ reason. reason.thing) reasons ≡ things_of monitor plan
  pub each : All (IsCountedReason monitor (table_of monitor plan chosen)) reasons
  pub listed : map (λ reason. reason.broadcast) broadcasts
      ≡ broadcasts_of (table_of monitor plan chosen)
  pub each_listed : All (IsBroadcastReason monitor (table_of monitor plan chosen)) broadcasts
