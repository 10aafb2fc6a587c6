-- What a worker keeps between two turns, and what it knows when it ends.
use Rattle.std.specs.Prelude.{◌≡◌, []}
use Rattle.threads_lock.specs.Passes.{PassView}
pub use Rattle.threads_lock.specs.Closing.{KnowsClosed}
use Rattle.threads_pool.specs.declared.shop.Shop.{Shop}
use Rattle.threads_pool.specs.declared.worker.Worker.{Worker}

-- the pass is one of the shared monitor, and knows which clients there are
pub record IsPlace (shop : Shop) (pass : PassView) : Type 0 where
  pub lock : pass.lock ≡ shop.monitor.lock
  pub system : pass.known.front.system ≡ shop.monitor.start.system

-- its passes are of the shared monitor and of the queue, and it has no ticket
pub record IsWorker (shop : Shop) (worker : Worker) : Type 0 where
  pub place : IsPlace shop worker.place
  pub queue : worker.tickets.queue ≡ shop.queue
  pub idle : worker.tickets.tickets ≡ []

-- a worker that ends was told that the monitor is closed
pub record HasFinished (shop : Shop) (worker : Worker) : Type 0 where
  pub own : IsWorker shop worker
  pub closed : KnowsClosed worker.place
