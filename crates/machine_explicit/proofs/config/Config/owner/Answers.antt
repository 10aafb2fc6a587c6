use Rattle.machine_explicit.proofs.Making.{keeps_wake_ups}
use Rattle.machine_explicit.proofs.config.Config.owner.Goals as goal

pub returns-clause-wakes : goal.returns-clause-wakes
returns-clause-wakes c = rw (← c.self.view_is) (keeps_wake_ups _ c.self.invariant.0)
