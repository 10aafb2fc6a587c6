use Rattle.plan_small.proofs.SimpleQueries.{small_plain}
use Rattle.plan_small.proofs.laws.small_monitors_are_plain.Goals as goal

pub returns : goal.returns
returns c = small_plain
