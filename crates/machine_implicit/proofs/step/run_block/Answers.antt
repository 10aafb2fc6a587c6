use Rattle.machine_implicit.specs.inner.Held.{given}
use Rattle.std.proofs.Common.{◌∙◌}
use Rattle.lang_monitor.specs.MonitorParts.{kinds_of}
use Rattle.machine_implicit.proofs.Held.{kinds_held, held_from_kinds}
use Rattle.machine_implicit.proofs.Placed.{fits_here}
use Rattle.machine_implicit.proofs.step.run_block.Goals as goal

pub run_kept-requires-clause-few : goal.run_kept-requires-clause-few
run_kept-requires-clause-few c =
    (fits_here c.args.monitor.now c.args.block c.block_of-block.result.now c.args.state.now (given c.args.inputs.now c.args.locals.now) c.block_of-block.ensures.block
    c.block_of-block.ensures.placed c.requires.state c.requires.inputs).few

pub run_kept-requires-clause-fits : goal.run_kept-requires-clause-fits
run_kept-requires-clause-fits c =
    (fits_here c.args.monitor.now c.args.block c.block_of-block.result.now c.args.state.now (given c.args.inputs.now c.args.locals.now) c.block_of-block.ensures.block
    c.block_of-block.ensures.placed c.requires.state c.requires.inputs).fits

pub returns-in-Ok-clause-fits : goal.returns-in-Ok-clause-fits
returns-in-Ok-clause-fits c =
    let fields = kinds_of c.args.monitor.now.fields in
    held_from_kinds fields c.run_kept.new.state (c.run_kept.ensures.kinds.state ∙ kinds_held fields c.args.state.now c.requires.state)
