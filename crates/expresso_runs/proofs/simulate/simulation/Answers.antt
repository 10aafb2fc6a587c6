use Rattle.expresso_runs.proofs.Simulating.{run_simulates, run_system}
use Rattle.expresso_runs.proofs.simulate.simulation.Goals as goal

pub returns-clause-system : goal.returns-clause-system
returns-clause-system c =
    run_system c.args.input.monitor c.args.input.scripts c.args.schedule c.in_ok-plan.plan c.most_spurious.result c.in_ok-free.free c.run.new.free
    c.most_spurious.ensures c.in_ok-free.ensures.opened c.run.ensures

pub returns-clause-simulation : goal.returns-clause-simulation
returns-clause-simulation c =
    run_simulates c.args.input.monitor c.args.input.scripts c.args.schedule c.in_ok-plan.plan c.most_spurious.result c.in_ok-free.free c.run.new.free
    c.most_spurious.ensures c.in_ok-free.ensures.opened c.args.choice c.in_ok-plan.ensures c.run.ensures
