use Rattle.std.proofs.Common.{rules}
use Rattle.threads_lock.proofs.Stepping.{observes}
use Rattle.threads_lock.proofs.lock.Lock.observe.Goals as goal

pub load-requires : goal.load-requires
load-requires c = (search rules, search rules, observes _ _ _ _ c.requires.idle.0 c.requires.live)
