use Rattle.logic_wp.proofs.UnreadGuards.{guard_stays}
use Rattle.logic_wp.proofs.laws.guard_without_inputs_stays.Goals as goal

pub returns : goal.returns
returns c = guard_stays
