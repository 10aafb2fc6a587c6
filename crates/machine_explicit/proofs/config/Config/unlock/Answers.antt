use Rattle.std.proofs.Common.{refl}
use Rattle.machine_explicit.proofs.MakingEvents.{unlocks_not, stands_finished}
use Rattle.machine_explicit.proofs.config.Config.unlock.Goals as goal

pub returns-in_default : goal.returns-in_default
returns-in_default c =
    let i = c.self.inside in
    let none = rw c.deref.ensures.value at c.in_default.ensures in
    (refl, rw (← c.self.view_is) (unlocks_not i.monitor i.plan i.scripts i.state i.owner i.commits.items i.positions.items c.args.client (λ place done. none place done)))

pub release-requires : goal.release-requires
release-requires c =
    let i = c.self.inside in
    rw (← c.self.view_is) (c.in-Some._place.now, stands_finished i.plan i.positions.items c.args.client c.in-Some._place.now (rw c.deref.ensures.value at c.in-Some.ensures))
