-- What a thread keeps of its caller.
use Rattle.std.specs.Prelude.{◌≡◌}
use Rattle.threads_lock.specs.Passes.{PassView, SharedView}

-- the caller is one of the monitor, and knows which clients there are
pub record IsPlace (monitor : SharedView) (caller : PassView) : Type 0 where
  pub lock : caller.lock ≡ monitor.lock
  pub system : caller.known.front.system ≡ monitor.start.system
