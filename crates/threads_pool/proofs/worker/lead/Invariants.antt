use Rattle.threads_pool.specs.inner.Workers.{IsWorker}
use Rattle.threads_pool.proofs.worker.lead.Given as goal

abbrev pub invariant-loop : goal.invariant-loop
invariant-loop g l = IsWorker l.shop l.worker
