use Rattle.plan_counted.proofs.RelayedRest.{counted_omits}
use Rattle.plan_counted.proofs.laws.counted_plans_omit_no_more.Goals as goal

pub returns : goal.returns
returns c = counted_omits
