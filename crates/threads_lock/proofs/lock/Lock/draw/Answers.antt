use Rattle.std.proofs.Common.{rules}
use Rattle.threads_lock.proofs.Stepping.{draws}
use Rattle.threads_lock.proofs.lock.Lock.draw.Goals as goal

pub fetch_add-requires : goal.fetch_add-requires
fetch_add-requires c = let i = c.requires.idle in (search rules, search rules, draws _ _ _ _ i.0 c.requires.live)
