use Rattle.threads_lock.proofs.Waiters.{stand_had}
use Rattle.threads_lock.proofs.lock.Lock.stand_late.Goals as goal

pub returns-clause-made : goal.returns-clause-made
returns-clause-made g c = stand_had _ _ _ _ _ c.in-Standing.is c.lend.ensures.made
