use Rattle.plan_counted.proofs.Mixing.{mixed_lawful}
use Rattle.plan_counted.proofs.laws.mixed_plans_are_lawful.Goals as goal

pub returns : goal.returns
returns c = mixed_lawful
