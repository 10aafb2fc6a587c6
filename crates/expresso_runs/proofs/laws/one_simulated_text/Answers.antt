use Rattle.expresso_runs.proofs.OneSimulation.{one_placement, one_text}
use Rattle.expresso_runs.proofs.laws.one_simulated_text.Goals as goal

pub returns-clause-plans : goal.returns-clause-plans
returns-clause-plans c = one_placement c.one_exact_plan.ensures

pub returns-clause-texts : goal.returns-clause-texts
returns-clause-texts c = one_text c.one_exact_plan.ensures c.one_log_by_rounds.ensures c.one_drawn_log.ensures
