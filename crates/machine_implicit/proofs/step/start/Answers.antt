use Rattle.std.proofs.Common.{arith}
use Rattle.std.proofs.lemmas.Grind.{common_steps}
use Rattle.machine_implicit.proofs.Held.{start_state_fits}
use Rattle.machine_implicit.proofs.step.start.Goals as goal

pub returns-clause-fits : goal.returns-clause-fits
returns-clause-fits c = start_state_fits c.args.monitor.now c.loop-field.state c.fields-field-items.ensures.rule (grind (arith, common_steps))
