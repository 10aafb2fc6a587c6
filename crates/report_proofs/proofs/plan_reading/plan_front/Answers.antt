use Rattle.std.proofs.Common.{◌≡◌, ◌++◌, List, ℕ, codes, subst, ◌∙◌}
use Rattle.machine_events.specs.PlanText.{plan_text}
use Rattle.report_verdict.specs.Reports.{IsPlanOf}
use Rattle.report_proofs.specs.Fronts.{IsAfter, IsAfterKept}
use Rattle.report_proofs.specs.inner.Reading.{parts_text}
use Rattle.report_proofs.proofs.Fronts.{either_after}
use Rattle.report_proofs.proofs.PlanParts.{plan_parts}
use Rattle.report_proofs.proofs.plan_reading.plan_front.Goals as goal

pub returns-in-Some : goal.returns-in-Some
returns-in-Some c =
    let monitor = c.args.monitor.now in
    let here = subst (IsAfter c.args.bytes.now (codes "plan " ++ c.bytes.result.now ++ codes "\n")) c.in-Some.is c.after.ensures in
    either_after (IsPlanOf monitor) IsAfterKept (codes "plan " ++ monitor.name ++ codes "\n") (parts_text monitor) (plan_text monitor) c.args.bytes.now c.in-Some.rest.now c.parts_front.result (plan_parts monitor)
    (subst (λ (name : List ℕ). (codes "plan " ++ name ++ codes "\n") ++ c.in-Some.rest.now ≡ c.args.bytes.now) (c.bytes.ensures ∙ c.name.ensures.name) here) c.parts_front.ensures
