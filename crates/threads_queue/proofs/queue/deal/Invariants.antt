use Rattle.std.proofs.Common.{◌≡◌, ◌-◌, ◌+◌, ◌≤◌, length, All, []}
use Rattle.crossbeam_queue.specs.Passes.{view, IsPassOf}
use Rattle.threads_queue.specs.inner.Moves.{begun}
use Rattle.threads_queue.specs.inner.Gathered.{pass_of}
use Rattle.threads_queue.proofs.queue.deal.Given as goal

abbrev pub invariant-loop : goal.invariant-loop
invariant-loop l =
    IsPassOf l.line l.whole
    × (l.whole.table_id ≡ l.fn.whole.table_id)
    × (view l.whole ≡ record (begun l.clients l.passes) { parts = l.passes + 1 - l.counter; tickets = [] })
    × (length l.list.items + 1 ≡ l.counter)
    × (l.passes ≤ l.list.cap)
    × All (λ p. p ≡ pass_of l.fn.whole.table_id (record (begun l.clients l.passes) { parts = 1; tickets = [] })) l.list.items
