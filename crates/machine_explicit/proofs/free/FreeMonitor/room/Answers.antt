use Rattle.std.proofs.Common.{sym, ◌∙◌}
use Rattle.machine_explicit.proofs.free.FreeMonitor.room.Goals as goal

pub returns-clause-room : goal.returns-clause-room
returns-clause-room c = rw (← c.self.view_is) (c.capacity.ensures ∙ sym c.self.invariant.room)
