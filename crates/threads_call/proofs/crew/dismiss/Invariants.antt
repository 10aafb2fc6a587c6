use Rattle.std.proofs.Common.{◌≡◌, ◌+◌, ◌≤◌, length, All}
use Rattle.threads_lock.specs.Closing.{KnowsClosed}
use Rattle.threads_call.specs.inner.Callings.{IsCalling}
use Rattle.threads_call.proofs.crew.dismiss.Given as goal

abbrev pub invariant-loop-calling : goal.invariant-loop-calling
invariant-loop-calling g l =
    All (IsCalling l.hall) l.calling-iterator.rest.items
    × (length l.back.items + length l.calling-iterator.rest.items ≡ length l.fn.crew.items)
    × (length l.fn.crew.items ≤ l.back.cap)
    × All (λ p. p.lock ≡ l.hall.monitor.lock) l.back.items
    × All KnowsClosed l.back.items
