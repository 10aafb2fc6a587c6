use Rattle.machine_explicit.proofs.Logging.{ended}
use Rattle.machine_explicit.proofs.free.FreeMonitor.closed.Goals as goal

pub returns-clause-ends : goal.returns-clause-ends
returns-clause-ends c closed =
    rw (← c.self.view_is) (ended _ c.self.invariant.always (record { free = c.self.invariant.always.rule.free; each = c.all_rest.ensures.0 closed }))
