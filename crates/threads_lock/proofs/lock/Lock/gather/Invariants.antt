use Rattle.std.proofs.Common.{◌≡◌, ◌++◌}
use Rattle.threads_lock.specs.inner.Gathered.{Gathered}
use Rattle.threads_lock.proofs.lock.Lock.gather.Given as goal

abbrev pub invariant-loop-pass : goal.invariant-loop-pass
invariant-loop-pass l = (l.seat.table_id ≡ l.fn.seat.table_id) × Gathered l.fn.seat.me l.seat.me l.yielded × (l.yielded ++ l.pass-iterator.rest.items ≡ l.fn.passes.items)
