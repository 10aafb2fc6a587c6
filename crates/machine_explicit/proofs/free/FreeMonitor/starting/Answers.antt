use Rattle.std.proofs.Common.{arith}
use Rattle.machine_explicit.proofs.Logging.{opened_kept}
use Rattle.machine_explicit.proofs.free.FreeMonitor.starting.Goals as goal

pub invariant_of-result : goal.invariant_of-result
invariant_of-result c =
    let rule = rw c.monitor.view_is at c.monitor.invariant in
    opened_kept c.args.monitor c.args.plan c.args.scripts c.args.extra c.in_ok-config.config _ c.in_ok-log.log.items c.in_ok-rings.rings rule c.clients.ensures.rule c.requires.scripts c.requires.plan c.requires.extra
    c.in_ok-config.ensures.opened c.in_ok-log.ensures.items (rw c.conditions.ensures.conditions at c.in_ok-rings.ensures)
    (omega (arith, c.in_ok-log.ensures.exact, rw c.clients.ensures.clients at c.room.ensures))
