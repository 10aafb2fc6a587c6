use Rattle.lang_monitor.specs.MonitorParts.{MonitorParts, IsMonitor}
use Rattle.machine_events.specs.declared.plan.Plan.{Plan}
use Rattle.plan_prune.specs.Hardness.{HasNoHardClaim}
use Rattle.plan_place.specs.Exact.{IsExact}
use Rattle.plan_place.specs.inner.Answers.{IsAnswered}
use Rattle.plan_claims.proofs.Backed.{Laws}
use Rattle.plan_place.proofs.Answered.{may_be_kept, plan_exact, plan_fits}
use Rattle.plan_place.proofs.Answered.{plan_lawful, plan_licensed}
use Rattle.plan_place.proofs.laws.answered_plans_are_placed.Goals as goal
use Rattle.plan_place.proofs.laws.answered_plans_are_placed.Goals.{After-easy_monitors_have_no_open_claim}

laws : (c : After-easy_monitors_have_no_open_claim) → Laws
laws c = record {
  refuted_is_false = c.refuted_formula_is_false.ensures;
  refuted_is_valid = c.refuted_query_is_valid.ensures;
}

pub returns-clause-fits : goal.returns-clause-fits
returns-clause-fits c = plan_fits

pub returns-clause-lawful : goal.returns-clause-lawful
returns-clause-lawful c = plan_lawful (laws c)

pub returns-clause-licensed : goal.returns-clause-licensed
returns-clause-licensed c = λ monitor plan rule answered. plan_licensed monitor plan answered

easy_exact : After-easy_monitors_have_no_open_claim → (monitor : MonitorParts) (plan : Plan) → IsMonitor monitor → IsAnswered monitor plan → HasNoHardClaim monitor → IsExact monitor plan
easy_exact c monitor plan rule answered none =
    plan_exact (laws c) monitor plan rule answered
    (c.easy_monitors_have_no_open_claim.ensures monitor plan.kept (may_be_kept monitor plan answered) none) (answered.greatest none)

pub returns-clause-exact : goal.returns-clause-exact
returns-clause-exact c = λ monitor plan rule answered small. easy_exact c monitor plan rule answered small.easy

pub returns-clause-none_hard : goal.returns-clause-none_hard
returns-clause-none_hard c = easy_exact c

pub returns-clause-none_open : goal.returns-clause-none_open
returns-clause-none_open c = plan_exact (laws c)
