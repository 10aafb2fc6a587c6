use Rattle.std.proofs.Common.{◌≡◌, ◌-◌, ◌<◌}
use Rattle.std.specs.List.{range_with_len}
use Rattle.crossbeam_queue.specs.Passes.{view, IsPassOf}
use Rattle.threads_queue.proofs.queue.fill.Given as goal

abbrev pub invariant-loop-client : goal.invariant-loop-client
invariant-loop-client l =
    IsPassOf l.line l.place
    × (view l.place ≡ record (view l.fn.place) { tickets = range_with_len l.client (l.clients - l.client) })
    × (0 < (view l.fn.place).parts)
