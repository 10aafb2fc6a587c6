-- What a monitor may become while threads share it.
use Rattle.std.specs.Prelude.{◌≡◌, List, ◌++◌}
use Rattle.machine_events.specs.declared.log.Entry.{Entry}
use Rattle.machine_events.specs.Logs.{IsClosed}
use Rattle.machine_explicit.specs.Sections.{FreeMachine, spurious_in}

-- the log is a front of the other
abbrev pub IsFront : List Entry → List Entry → Type 0
IsFront log longer = (rest : List Entry) × (longer ≡ log ++ rest)

-- The same monitor, plan and scripts, with as many spurious entries allowed, a log that begins with
-- the log before, and no spurious entry more. What was closed is as it was.
pub record Follows (before after : FreeMachine) : Type 0 where
  pub system : after.system ≡ before.system
  pub extra : after.extra ≡ before.extra
  pub log : IsFront before.log after.log
  pub spurious : spurious_in after.log ≡ spurious_in before.log
  pub closed : IsClosed before.system before.now → after ≡ before
