use Rattle.std.proofs.Common.{refl}
use Rattle.machine_explicit.specs.inner.Positions.{machine_of}
use Rattle.machine_explicit.proofs.Waiters.{each_rests}
use Rattle.machine_explicit.proofs.config.Config.all_rest.Goals as goal

pub returns : goal.returns
returns c =
    let i = c.self.inside in
    let all = rw c.deref.ensures.value at c.all_rest.ensures in
    let both = each_rests (machine_of i.monitor i.plan i.scripts i.state i.owner i.commits.items i.positions.items) i.positions.items refl in
    rw (← c.self.view_is) ((λ t. both.0 (all.0 t)), (λ each. all.1 (both.1 each)))
