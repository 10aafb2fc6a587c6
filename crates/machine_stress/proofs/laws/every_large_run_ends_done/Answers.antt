use Rattle.machine_stress.proofs.LargeRuns.{every_run}
use Rattle.machine_stress.proofs.laws.every_large_run_ends_done.Goals as goal

pub returns : goal.returns
returns c = every_run
