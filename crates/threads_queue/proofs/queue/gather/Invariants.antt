use Rattle.std.proofs.Common.{◌≡◌, ◌++◌, ◌<◌}
use Rattle.crossbeam_queue.specs.Passes.{view, IsPassOf}
use Rattle.threads_queue.specs.inner.Gathered.{Gathered}
use Rattle.threads_queue.proofs.queue.gather.Given as goal

abbrev pub invariant-loop-pass : goal.invariant-loop-pass
invariant-loop-pass l =
    IsPassOf l.line l.place
    × (l.place.table_id ≡ l.fn.place.table_id)
    × (0 < (view l.fn.place).parts)
    × Gathered (view l.fn.place) (view l.place) l.yielded
    × (l.yielded ++ l.pass-iterator.rest.items ≡ l.fn.passes.items)
