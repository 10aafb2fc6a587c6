use Rattle.std.proofs.Common.{rules}
use Rattle.threads_lock.proofs.Seating.{joins}
use Rattle.threads_lock.proofs.lock.Lock.take_in.Goals as goal

pub join_seat-requires : goal.join_seat-requires
join_seat-requires c = (search rules, search rules, search rules, search rules, joins _ _ _ _ _ c.requires.idle.0.0 c.requires.idle.1.0 c.requires.live.0 c.requires.live.1)
