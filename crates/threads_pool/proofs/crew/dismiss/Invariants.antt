use Rattle.std.proofs.Common.{◌≡◌, ◌+◌, ◌≤◌, length, All}
use Rattle.threads_pool.specs.inner.Workers.{HasFinished, KnowsClosed}
use Rattle.threads_pool.proofs.crew.dismiss.Given as goal

abbrev pub invariant-loop-worker : goal.invariant-loop-worker
invariant-loop-worker l =
    All (HasFinished l.shop) l.worker-iterator.rest.items
    × (length l.places.items + length l.worker-iterator.rest.items ≡ length l.fn.crew.items)
    × (length l.fn.crew.items ≤ l.places.cap)
    × All (λ p. p.lock ≡ l.shop.monitor.lock) l.places.items
    × All KnowsClosed l.places.items
