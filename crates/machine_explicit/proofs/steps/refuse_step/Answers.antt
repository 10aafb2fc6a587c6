use Rattle.std.proofs.Common.{refl, arith}
use Rattle.machine_explicit.proofs.Counting.{call_number_small}
use Rattle.machine_explicit.proofs.Stepping.{trying, refused_step}
use Rattle.machine_explicit.proofs.steps.refuse_step.Goals as goal

pub overflow_add-commit : goal.overflow_add-commit
overflow_add-commit c =
    let call = trying c.args.clients.now c.args.client c.args.position.now.place c.requires.tries in
    omega (arith, call_number_small c.args.clients.now c.args.client c.args.position.now.place.past call.call c.requires.clients call.is)

pub overflow_add-position : goal.overflow_add-position
overflow_add-position c =
    let call = trying c.args.clients.now c.args.client c.args.position.now.place c.requires.tries in
    omega (arith, call_number_small c.args.clients.now c.args.client c.args.position.now.place.past call.call c.requires.clients call.is)

pub returns-clause-step : goal.returns-clause-step
returns-clause-step c state fails = record {
  step = refused_step c.args.monitor.now c.args.clients.now c.args.client c.args.position.now.place c.begin_call.new.place state
      (trying c.args.clients.now c.args.client c.args.position.now.place c.requires.tries) fails c.begin_call.ensures;
  commits = refl;
  notes = refl;
}
