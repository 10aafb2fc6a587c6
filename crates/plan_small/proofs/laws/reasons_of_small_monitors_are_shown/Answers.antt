use Rattle.plan_small.proofs.ShownReasons.{reasons_shown}
use Rattle.plan_small.proofs.SimpleQueries.{small_plain}
use Rattle.plan_small.proofs.laws.reasons_of_small_monitors_are_shown.Goals as goal

pub returns : goal.returns
returns c = λ monitor plan reasons rule small. reasons_shown monitor plan reasons (small_plain monitor rule small).claims
