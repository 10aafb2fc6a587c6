use Rattle.machine_implicit.specs.inner.Held.{given, held, held_places}
use Rattle.machine_implicit.proofs.Only.{only_fits, only_reaches, only_replies, only_overflows}
use Rattle.machine_implicit.proofs.step.run_only.Goals as goal

pub run_alone-requires-clause-fits : goal.run_alone-requires-clause-fits
run_alone-requires-clause-fits c =
    only_fits (held_places c.args.state.now (given c.args.inputs.now c.args.locals.now)) c.args.block.now c.args.statement.now c.requires.body c.requires.fits

pub returns-in-Ok-clause-reply : goal.returns-in-Ok-clause-reply
returns-in-Ok-clause-reply c = only_replies (given c.args.inputs.now c.args.locals.now) c.args.block.now c.args.state.now c.requires.nothing

pub returns-in-Ok-clause-reached : goal.returns-in-Ok-clause-reached
returns-in-Ok-clause-reached c =
    only_reaches (given c.args.inputs.now c.args.locals.now) c.args.block.now c.args.statement.now c.args.state.now (held c.run_alone.new.state c.run_alone.new.locals) c.requires.body c.in-Ok.ensures.ran

pub returns-in-Ok-clause-fitted : goal.returns-in-Ok-clause-fitted
returns-in-Ok-clause-fitted c =
    let ran = c.in-Ok.ensures.ran in
    only_overflows (given c.args.inputs.now c.args.locals.now) c.args.block.now c.args.statement.now c.args.state.now _ c.requires.body c.requires.nothing ran.fits

pub returns-in-Err-clause-overflowed : goal.returns-in-Err-clause-overflowed
returns-in-Err-clause-overflowed c =
    only_overflows (given c.args.inputs.now c.args.locals.now) c.args.block.now c.args.statement.now c.args.state.now _ c.requires.body c.requires.nothing c.in-Err.ensures.overflowed
