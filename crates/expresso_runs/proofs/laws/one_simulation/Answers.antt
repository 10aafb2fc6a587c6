use Rattle.expresso_runs.proofs.OneSimulation.{one_last, one_log}
use Rattle.expresso_runs.proofs.laws.one_simulation.Goals as goal

pub returns-clause-logs : goal.returns-clause-logs
returns-clause-logs c = one_log c.one_log_by_rounds.ensures c.one_drawn_log.ensures

pub returns-clause-ends : goal.returns-clause-ends
returns-clause-ends c = one_last c.one_log_by_rounds.ensures c.one_drawn_log.ensures
