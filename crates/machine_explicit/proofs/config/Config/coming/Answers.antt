use Rattle.machine_explicit.proofs.MakingNotes.{next_fits}
use Rattle.machine_explicit.proofs.MakingWakes.{made_coming, none_comes}
use Rattle.machine_explicit.proofs.config.Config.coming.Goals as goal

pub returns-in_default-clause-comes : goal.returns-in_default-clause-comes
returns-in_default-clause-comes c =
    let i = c.self.inside in
    rw (← c.self.view_is) (none_comes i.monitor i.plan i.scripts i.state i.owner i.commits.items i.positions.items c.args.client (rw c.deref.ensures.value at c.in_default.ensures))

pub fires-fires-requires-clause-fits : goal.fires-fires-requires-clause-fits
fires-fires-requires-clause-fits c =
    next_fits c.self.inside.monitor c.self.inside.plan c.deref.result.now c.args.client c.in-Some.next c.self.invariant.0.is.rule c.self.invariant.0.is.plan c.in-Some.ensures

pub returns-clause-comes : goal.returns-clause-comes
returns-clause-comes c =
    let i = c.self.inside in
    rw (← c.self.view_is) (made_coming i.monitor i.plan i.scripts i.state i.owner i.commits.items i.positions.items c.args.client c.in-Some.next (rw c.deref.ensures.value at c.in-Some.ensures), c.fires-fires.ensures)
