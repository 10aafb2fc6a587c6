use Rattle.std.proofs.Common.{◌≡◌, ◌+◌, ◌≤◌, length, All}
use Rattle.threads_queue.specs.Tickets.{new_pass}
use Rattle.threads_pool.specs.inner.Workers.{IsPlace, IsWorker}
use Rattle.threads_pool.proofs.crew.hire.Given as goal

abbrev pub invariant-loop-place : goal.invariant-loop-place
invariant-loop-place l =
    All (IsPlace l.shop) l.place-iterator.rest.items
    × All (λ p. p ≡ new_pass l.shop.queue) l.tickets.items
    × (length l.tickets.items ≡ length l.place-iterator.rest.items)
    × (length l.crew.items + length l.place-iterator.rest.items ≡ length l.fn.places.items)
    × (length l.fn.places.items ≤ l.crew.cap)
    × All (IsWorker l.shop) l.crew.items
