use Rattle.plan_count.proofs.Answering.{counted}
use Rattle.plan_count.proofs.laws.answers_count.Goals as goal

pub returns : goal.returns
returns c = counted c.guard_without_inputs_stays.ensures
