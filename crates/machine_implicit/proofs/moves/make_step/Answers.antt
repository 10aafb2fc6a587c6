use Rattle.std.proofs.Common.{sym, ◌∙◌}
use Rattle.machine_implicit.proofs.Fitting.{refusal_step}
use Rattle.machine_implicit.proofs.moves.make_step.Goals as goal

pub returns-then-not-guard_holds : goal.returns-then-not-guard_holds
returns-then-not-guard_holds c = record {
  step = refusal_step c.args.monitor.now c.args.clients.now c.args.client c.args.place.now c.begin_call.new.place c.in-Some.call.now c.args.state.now c.in-Some.ensures.call c.requires.may
      (sym (rw (c.block_number-block.ensures.number, c.items.ensures) at c.guard_holds.ensures) ∙ c.if-not-guard_holds.true) c.begin_call.ensures;
}
