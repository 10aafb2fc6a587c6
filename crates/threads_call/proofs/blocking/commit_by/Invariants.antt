use Rattle.std.proofs.Common.{◌≡◌}
use Rattle.threads_call.specs.Commits.{HasWaited}
use Rattle.threads_call.proofs.blocking.commit_by.Given as goal

abbrev pub invariant-loop : goal.invariant-loop
invariant-loop g l =
    (l.caller.lock ≡ l.fn.caller.lock) × HasWaited l.client l.fn.caller.known l.caller.known
