use Rattle.machine_implicit.proofs.Fitting.{last_is}
use Rattle.machine_implicit.proofs.moves.is_at_last.Goals as goal

pub returns : goal.returns
returns c = last_is c.args.monitor.now c.args.call.now c.args.block c.method_of.result.now c.method_of.ensures.method
