use Rattle.std.proofs.Common.{sym, ◌∙◌}
use Rattle.machine_simulate.proofs.Waking.{never_refused}
use Rattle.machine_simulate.proofs.acting.wake.Goals as goal

pub unreachable-requires : goal.unreachable-requires
unreachable-requires c = never_refused c.args.free.now c.spurious.new.self c.args.client c.spurious.result c.requires.waits c.requires.left c.spurious.ensures.spurious (sym c.is_err.ensures.value ∙ c.if-is_err.true)
