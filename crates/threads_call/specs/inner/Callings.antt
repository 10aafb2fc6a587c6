-- What a thread keeps between two calls of its client.
use Rattle.std.specs.Prelude.{◌≡◌}
use Rattle.threads_lock.specs.Passes.{PassView, SharedView}
use Rattle.threads_call.specs.declared.crew.Calling.{Calling}
use Rattle.threads_call.specs.declared.hall.Hall.{Hall}

-- the caller is one of the monitor, and knows which clients there are
pub record IsPlace (monitor : SharedView) (caller : PassView) : Type 0 where
  pub lock : caller.lock ≡ monitor.lock
  pub system : caller.known.front.system ≡ monitor.start.system

-- its caller is one of the monitor
abbrev pub IsCalling : Hall → Calling → Type 0
IsCalling hall calling = IsPlace hall.monitor calling.caller
