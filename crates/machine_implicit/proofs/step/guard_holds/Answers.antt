use Rattle.machine_implicit.specs.inner.Held.{given, held_places}
use Rattle.machine_implicit.proofs.Placed.{fits_here, guard_fits}
use Rattle.machine_implicit.proofs.step.guard_holds.Goals as goal

pub is_true-requires-clause-few : goal.is_true-requires-clause-few
is_true-requires-clause-few c =
    rw (c.values.ensures.values, c.values-2.ensures.values)
    (fits_here c.args.monitor.now c.args.block c.block_of.result.now c.args.state.now (given c.args.inputs.now c.args.locals.now) c.block_of.ensures.block
    c.block_of.ensures.placed c.requires.state c.requires.inputs).few

pub is_true-requires-clause-fits : goal.is_true-requires-clause-fits
is_true-requires-clause-fits c =
    rw (c.values.ensures.values, c.values-2.ensures.values)
    (guard_fits (held_places c.args.state.now (given c.args.inputs.now c.args.locals.now)) c.block_of.result.now
    (fits_here c.args.monitor.now c.args.block c.block_of.result.now c.args.state.now (given c.args.inputs.now c.args.locals.now) c.block_of.ensures.block
    c.block_of.ensures.placed c.requires.state c.requires.inputs).fits)
