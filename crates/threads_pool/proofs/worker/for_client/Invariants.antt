use Rattle.threads_pool.specs.inner.Workers.{IsPlace}
use Rattle.threads_pool.proofs.worker.for_client.Given as goal

abbrev pub invariant-loop : goal.invariant-loop
invariant-loop g l = IsPlace l.shop l.place
