use Rattle.plan_place.proofs.OnePlan.{one_plan}
use Rattle.plan_place.proofs.laws.one_exact_plan.Goals as goal

pub returns : goal.returns
returns c = one_plan
