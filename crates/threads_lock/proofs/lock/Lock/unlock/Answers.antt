use Rattle.std.proofs.Common.{rules}
use Rattle.threads_lock.proofs.Stepping.{releases}
use Rattle.threads_lock.proofs.lock.Lock.unlock.Goals as goal

pub fetch_add-served-requires : goal.fetch_add-served-requires
fetch_add-served-requires c = (search rules, search rules, releases _ _ _ _ c.requires.turn.0 c.requires.turn.1)
