use Rattle.threads_lock.proofs.Waiters.{look_had}
use Rattle.threads_lock.proofs.lock.Lock.look_late.Goals as goal

pub returns-clause-made : goal.returns-clause-made
returns-clause-made g c = look_had _ _ _ _ c.in-Closed.is c.lend.ensures.made
