use Rattle.expresso_runs.proofs.Simulating.{drawn_run_out, rounds_run_out}
use Rattle.expresso_runs.proofs.simulate.run.Goals as goal

pub returns-in-Rounds : goal.returns-in-Rounds
returns-in-Rounds c =
    let out = c.rounds.ensures in
    rounds_run_out c.args.schedule c.args.free.now c.rounds.new.free c.in-Rounds.is out.rounds out.closed out.extends out.spurious out.always out.ends

pub returns-in-Drawn : goal.returns-in-Drawn
returns-in-Drawn c =
    let out = c.drawn.ensures in
    drawn_run_out c.args.schedule c.in-Drawn.seed c.in-Drawn.spurious c.args.free.now c.drawn.new.free c.in-Drawn.is out.drawn out.closed out.extends out.spurious out.always out.ends
