use Rattle.threads_lock.proofs.Waiters.{section_had}
use Rattle.threads_lock.proofs.lock.Lock.visit_late.Goals as goal

pub returns-clause-made : goal.returns-clause-made
returns-clause-made g c = section_had _ _ _ _ _ c.in-Section.is c.lend.ensures.made
