use Rattle.std.proofs.Common.{◌∙◌}
use Rattle.machine_explicit.proofs.Making.{keeps_wake_ups}
use Rattle.machine_explicit.proofs.config.Config.room.Goals as goal

pub returns-clause-room : goal.returns-clause-room
returns-clause-room c = rw (← c.self.view_is) (c.capacity.ensures ∙ c.self.invariant.1)

pub returns-clause-wakes : goal.returns-clause-wakes
returns-clause-wakes c = rw (← c.self.view_is) (keeps_wake_ups _ c.self.invariant.0)
