use Rattle.std.proofs.Common.{◌≡◌, All}
use Rattle.threads_lock.specs.Loans.{lock_of}
use Rattle.threads_call.proofs.lobby.open_berths.Given as goal

abbrev pub invariant-loop : goal.invariant-loop
invariant-loop l = All (λ berth. lock_of berth ≡ l.monitor.lock) l.berths.items
