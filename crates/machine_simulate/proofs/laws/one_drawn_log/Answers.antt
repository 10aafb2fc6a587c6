use Rattle.machine_simulate.proofs.OneLog.{one_drawn}
use Rattle.machine_simulate.proofs.laws.one_drawn_log.Goals as goal

pub returns : goal.returns
returns c = one_drawn
