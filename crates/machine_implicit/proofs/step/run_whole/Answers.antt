use Rattle.machine_implicit.specs.inner.Held.{given, held_places}
use Rattle.machine_implicit.proofs.Placed.{body_fits}
use Rattle.machine_implicit.proofs.step.run_whole.Goals as goal

pub run_statements-requires-clause-fits : goal.run_statements-requires-clause-fits
run_statements-requires-clause-fits c =
    rw c.items.ensures (body_fits (held_places c.args.state.now (given c.args.inputs.now c.args.locals.now)) c.args.block.now c.requires.fits)
