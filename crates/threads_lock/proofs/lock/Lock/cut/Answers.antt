use Rattle.std.proofs.Common.{rules}
use Rattle.threads_lock.proofs.Seating.{splits}
use Rattle.threads_lock.proofs.lock.Lock.cut.Goals as goal

pub split_seat-requires : goal.split_seat-requires
split_seat-requires c = (search rules, search rules, splits _ _ _ c.requires.idle.0 c.requires.two)
