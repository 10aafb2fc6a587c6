use Rattle.machine_events.proofs.Bounds.{log_bounded}
use Rattle.machine_events.proofs.laws.log_is_bounded.Goals as goal

pub returns : goal.returns
returns c system log last is legal = log_bounded system is log last legal
