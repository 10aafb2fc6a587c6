-- What a thread keeps of its pass.
use Rattle.std.specs.Prelude.{◌≡◌}
use Rattle.threads_lock.specs.Passes.{PassView, SharedView}

-- the pass is one of the shared monitor, and knows which clients there are
pub record IsPlace (shared : SharedView) (pass : PassView) : Type 0 where
  pub lock : pass.lock ≡ shared.lock
  pub system : pass.known.front.system ≡ shared.start.system
