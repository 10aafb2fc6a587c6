use Rattle.std.proofs.Common.{◌≡◌, ◌+◌, ◌≤◌, length, All}
use Rattle.threads_lock.specs.inner.Queueing.{IsIdle}
use Rattle.threads_lock.proofs.shared.deal.Given as goal

abbrev pub invariant-loop-number : goal.invariant-loop-number
invariant-loop-number l =
    (l.whole.table_id ≡ l.fn.whole.table_id)
    × (l.whole.me.0.parts + l.number ≡ l.passes + 1)
    × IsIdle l.whole.me
    × (l.whole.me.0.known ≡ l.fn.whole.me.0.known)
    × (length l.list.items + 1 ≡ l.number)
    × (l.passes ≤ l.list.cap)
    × All (λ p. p.lock ≡ l.fn.whole.table_id) l.list.items
    × All (λ p. p.known ≡ l.fn.whole.me.0.known) l.list.items
