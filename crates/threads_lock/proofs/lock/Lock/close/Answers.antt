use Rattle.threads_lock.proofs.Seating.{closes}
use Rattle.threads_lock.proofs.lock.Lock.close.Goals as goal

pub returns : goal.returns
returns c = closes _ _ _ _ _ _ c.requires.idle.0 c.requires.all c.args.self.some_pass c.take-free.ensures.value c.close_with-closed.ensures.values.2
