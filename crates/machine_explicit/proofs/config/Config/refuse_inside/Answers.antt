use Rattle.std.proofs.Common.{ap, refl, arith}
use Rattle.machine_explicit.specs.declared.config.Way.TheVariants as ways
use Rattle.machine_explicit.specs.Machines.{Machine}
use Rattle.machine_explicit.specs.inner.Positions.{machine_of}
use Rattle.machine_explicit.specs.inner.Waiting.{Goes}
use Rattle.machine_explicit.proofs.MakingEvents.{goes_at, refused, refused_meets, room_left}
use Rattle.machine_explicit.proofs.config.Config.refuse_inside.Goals as goal

pub refuse_step-commit-requires-clause-tries : goal.refuse_step-commit-requires-clause-tries
refuse_step-commit-requires-clause-tries c =
    let i = c.self.inside in
    let one = c.index_mut.result.now in
    let goes : Goes (machine_of i.monitor i.plan i.scripts i.state i.owner i.commits.items i.positions.items) c.args.client ways.GivesUp = rw (← c.self.view_is) at c.requires in
    let here = goes_at i.monitor i.plan i.scripts i.state i.owner i.commits.items i.positions.items c.args.client one ways.GivesUp c.self.invariant.0 goes c.index_mut.ensures.value in
    rw c.clients.ensures.clients here.is.1

pub push_reserved-requires : goal.push_reserved-requires
push_reserved-requires c =
    let i = c.self.inside in
    let one = c.index_mut.result.now in
    let goes : Goes (machine_of i.monitor i.plan i.scripts i.state i.owner i.commits.items i.positions.items) c.args.client ways.GivesUp = rw (← c.self.view_is) at c.requires in
    let here = goes_at i.monitor i.plan i.scripts i.state i.owner i.commits.items i.positions.items c.args.client one ways.GivesUp c.self.invariant.0 goes c.index_mut.ensures.value in
    let stepped = rw c.clients.ensures.clients at c.refuse_step-commit.ensures.step in
    let has = stepped i.state here.is.0 in
    let next = refused_meets i.monitor i.plan i.scripts i.state i.owner i.commits.items i.positions.items c.args.client one c.refuse_step-commit.new.position c.refuse_step-commit.result c.self.invariant.0 here has in
    room_left (machine_of i.monitor i.plan i.scripts i.state i.owner i.commits.items i.positions.items) _ i.commits.items c.refuse_step-commit.result i.commits.len i.commits.cap c.self.invariant.0 next refl refl
    (omega (arith, i.commits.ok.0)) c.self.invariant.1

pub invariant_of-self : goal.invariant_of-self
invariant_of-self c =
    let i = c.self.inside in
    let one = c.index_mut.result.now in
    let goes : Goes (machine_of i.monitor i.plan i.scripts i.state i.owner i.commits.items i.positions.items) c.args.client ways.GivesUp = rw (← c.self.view_is) at c.requires in
    let here = goes_at i.monitor i.plan i.scripts i.state i.owner i.commits.items i.positions.items c.args.client one ways.GivesUp c.self.invariant.0 goes c.index_mut.ensures.value in
    let stepped = rw c.clients.ensures.clients at c.refuse_step-commit.ensures.step in
    let has = stepped i.state here.is.0 in
    let next = refused_meets i.monitor i.plan i.scripts i.state i.owner i.commits.items i.positions.items c.args.client one c.refuse_step-commit.new.position c.refuse_step-commit.result c.self.invariant.0 here has in
    rw (c.push_reserved.ensures.items, c.push_reserved.ensures.capacity) (next, c.self.invariant.1)

pub returns : goal.returns
returns c =
    let i = c.self.inside in
    let one = c.index_mut.result.now in
    let goes : Goes (machine_of i.monitor i.plan i.scripts i.state i.owner i.commits.items i.positions.items) c.args.client ways.GivesUp = rw (← c.self.view_is) at c.requires in
    let here = goes_at i.monitor i.plan i.scripts i.state i.owner i.commits.items i.positions.items c.args.client one ways.GivesUp c.self.invariant.0 goes c.index_mut.ensures.value in
    let stepped = rw c.clients.ensures.clients at c.refuse_step-commit.ensures.step in
    let has = stepped i.state here.is.0 in (
      ap (λ (m : Machine). m.system) c.self.view_is,
      rw (← c.self.view_is, c.push_reserved.ensures.items) (
        one.place,
        c.refuse_step-commit.new.position.place,
        i.state,
        refused i.monitor i.plan i.scripts i.state i.owner i.commits.items i.positions.items c.args.client one c.refuse_step-commit.new.position c.refuse_step-commit.result here has c.refuse_step-commit.ensures.refused,
      ),
    )
