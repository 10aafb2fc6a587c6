use Rattle.std.proofs.Common.{◌≡◌, ◌+◌, ◌≤◌, length, All}
use Rattle.threads_call.specs.inner.Callings.{IsCalling, IsPlace}
use Rattle.threads_call.proofs.crew.gather.Given as goal

abbrev pub invariant-loop-caller : goal.invariant-loop-caller
invariant-loop-caller l =
    All (IsPlace l.hall.monitor) l.caller-iterator.rest.items
    × (length l.crew.items + length l.caller-iterator.rest.items ≡ length l.fn.callers.items)
    × (length l.fn.callers.items ≤ l.crew.cap)
    × All (IsCalling l.hall) l.crew.items
