use Rattle.threads_pool.specs.inner.Workers.{IsPlace}
use Rattle.threads_pool.proofs.worker.stand_by.Given as goal

abbrev pub invariant-loop : goal.invariant-loop
invariant-loop g l = IsPlace l.shop l.place
