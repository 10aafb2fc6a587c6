use Rattle.std.proofs.Common.{OnErr, OnOk, subst}
use Rattle.lang_monitor.specs.Bodies.{Memory}
use Rattle.lang_monitor.specs.Statements.{Effect}
use Rattle.machine_implicit.specs.inner.Held.{given, held, held_places, Leaves64, RunsWhole}
use Rattle.machine_implicit.proofs.StatementForms.{put_fits, put_is}
use Rattle.machine_implicit.proofs.run.run_alone.Goals as goal

pub assign-requires-clause-fits : goal.assign-requires-clause-fits
assign-requires-clause-fits c = put_fits (held_places c.args.state.now (given c.args.inputs.now c.args.locals.now)) c.args.statement.now c.in-Put.put c.in-Put.is c.requires.fits

pub returns-in-Put-clause-ran : goal.returns-in-Put-clause-ran
returns-in-Put-clause-ran c =
    subst (λ (effect : Effect Memory). OnOk c.assign.result (RunsWhole effect (held c.args.state.now c.args.locals.now) (held c.assign.new.state c.assign.new.locals)))
    (put_is c.args.inputs.now c.args.statement.now c.in-Put.put c.in-Put.is) c.assign.ensures.ran

pub returns-in-Put-clause-overflowed : goal.returns-in-Put-clause-overflowed
returns-in-Put-clause-overflowed c =
    subst (λ (effect : Effect Memory). OnErr c.assign.result (Leaves64 effect (held c.args.state.now c.args.locals.now)))
    (put_is c.args.inputs.now c.args.statement.now c.in-Put.put c.in-Put.is) c.assign.ensures.overflowed
