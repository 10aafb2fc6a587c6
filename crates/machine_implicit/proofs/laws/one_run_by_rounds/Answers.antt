use Rattle.machine_implicit.proofs.OneRun.{one_run}
use Rattle.machine_implicit.proofs.laws.one_run_by_rounds.Goals as goal

pub returns : goal.returns
returns c = one_run
