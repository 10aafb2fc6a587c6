use Rattle.plan_counted.proofs.ExactCounts.{counted_exact}
use Rattle.plan_counted.proofs.laws.counted_plans_are_exact.Goals as goal

pub returns : goal.returns
returns c = counted_exact
