use Rattle.std.proofs.Common.{rules}
use Rattle.threads_lock.proofs.Seating.{spares}
use Rattle.threads_lock.proofs.lock.Lock.spare.Goals as goal

pub load_new_seat-served-requires : goal.load_new_seat-served-requires
load_new_seat-served-requires c = (search rules, spares _ _)
