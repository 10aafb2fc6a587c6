use Rattle.machine_simulate.proofs.OneLog.{one_by_rounds}
use Rattle.machine_simulate.proofs.laws.one_log_by_rounds.Goals as goal

pub returns : goal.returns
returns c = one_by_rounds
