use Rattle.plan_needs.proofs.Sparing.{signal_asked, signal_not_asked}
use Rattle.plan_needs.proofs.broadcasting.signal_failure.Goals as goal

pub returns-in-None : goal.returns-in-None
returns-in-None c = signal_not_asked c.args.monitor.now c.args.kept.now c.args.row c.args.broadcast.condition c.args.broadcast.block c.in-None.is

pub returns-in_ok-signal_failure_by-in-Some : goal.returns-in_ok-signal_failure_by-in-Some
returns-in_ok-signal_failure_by-in-Some c =
    signal_asked c.args.monitor.now c.args.kept.now c.args.row c.in-Some.row c.args.broadcast.condition c.args.broadcast.block c.in_ok-signal_failure_by-in-Some.field-0 c.in-Some.is c.in_ok-signal_failure_by-in-Some.ensures
