use Rattle.std.proofs.Common.{arith}
use Rattle.machine_implicit.proofs.Fitting.{run_fits}
use Rattle.machine_implicit.proofs.Left.{run_counts}
use Rattle.machine_implicit.proofs.laws.runs_fit.Goals as goal

pub returns-clause-fit : goal.returns-clause-fit
returns-clause-fit c = run_fits

pub returns-clause-short : goal.returns-clause-short
returns-clause-short c monitor clients history now rule scripts run = let counts = run_counts monitor clients history now rule scripts run in omega (arith, counts)
