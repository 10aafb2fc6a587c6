use Rattle.expresso_runs.proofs.PlacedRun.{ended_run}
use Rattle.expresso_runs.proofs.run.worked.Goals as goal

pub returns-clause-placed : goal.returns-clause-placed
returns-clause-placed g c =
    let made = c.run_pool.ensures in
    ended_run c.args.choice c.args.monitor c.args.scripts c.in_ok-plan.plan c.in_ok-free.free c.run_pool.result c.in_ok-plan.ensures c.in_ok-free.ensures.opened made.follows (λ last follows. follows.system) made.closed made.ends made.always
