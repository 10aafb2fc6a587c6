use Rattle.std.proofs.Common.{ap, refl, arith}
use Rattle.machine_explicit.specs.declared.config.Way.TheVariants as ways
use Rattle.machine_explicit.specs.Machines.{Machine}
use Rattle.machine_explicit.specs.inner.Positions.{machine_of}
use Rattle.machine_explicit.specs.inner.Waiting.{Goes}
use Rattle.machine_explicit.proofs.MakingEvents.{goes_at, runs, ran_meets, room_left}
use Rattle.machine_explicit.proofs.config.Config.run_inside.Goals as goal

pub run_step-commit-requires-clause-place : goal.run_step-commit-requires-clause-place
run_step-commit-requires-clause-place c =
    let i = c.self.inside in
    let one = c.index_mut.result.now in
    let goes : Goes (machine_of i.monitor i.plan i.scripts i.state i.owner i.commits.items i.positions.items) c.args.client ways.Runs = rw (← c.self.view_is) at c.requires in
    let here = goes_at i.monitor i.plan i.scripts i.state i.owner i.commits.items i.positions.items c.args.client one ways.Runs c.self.invariant.0 goes c.index_mut.ensures.value in
    rw c.clients.ensures.clients here.fits

pub run_step-commit-requires-clause-guard : goal.run_step-commit-requires-clause-guard
run_step-commit-requires-clause-guard c =
    let i = c.self.inside in
    let one = c.index_mut.result.now in
    let goes : Goes (machine_of i.monitor i.plan i.scripts i.state i.owner i.commits.items i.positions.items) c.args.client ways.Runs = rw (← c.self.view_is) at c.requires in
    let here = goes_at i.monitor i.plan i.scripts i.state i.owner i.commits.items i.positions.items c.args.client one ways.Runs c.self.invariant.0 goes c.index_mut.ensures.value in
    rw c.clients.ensures.clients here.is

pub push_reserved-requires : goal.push_reserved-requires
push_reserved-requires c =
    let i = c.self.inside in
    let one = c.index_mut.result.now in
    let goes : Goes (machine_of i.monitor i.plan i.scripts i.state i.owner i.commits.items i.positions.items) c.args.client ways.Runs = rw (← c.self.view_is) at c.requires in
    let here = goes_at i.monitor i.plan i.scripts i.state i.owner i.commits.items i.positions.items c.args.client one ways.Runs c.self.invariant.0 goes c.index_mut.ensures.value in
    let has = rw c.clients.ensures.clients at c.run_step-commit.ensures in
    let next = ran_meets i.monitor i.plan i.scripts i.state c.run_step-commit.new.state i.owner i.commits.items i.positions.items c.args.client one c.run_step-commit.new.position c.run_step-commit.result c.self.invariant.0 here has in
    room_left (machine_of i.monitor i.plan i.scripts i.state i.owner i.commits.items i.positions.items) _ i.commits.items c.run_step-commit.result i.commits.len i.commits.cap c.self.invariant.0 next refl refl
    (omega (arith, i.commits.ok.0)) c.self.invariant.1

pub invariant_of-self : goal.invariant_of-self
invariant_of-self c =
    let i = c.self.inside in
    let one = c.index_mut.result.now in
    let goes : Goes (machine_of i.monitor i.plan i.scripts i.state i.owner i.commits.items i.positions.items) c.args.client ways.Runs = rw (← c.self.view_is) at c.requires in
    let here = goes_at i.monitor i.plan i.scripts i.state i.owner i.commits.items i.positions.items c.args.client one ways.Runs c.self.invariant.0 goes c.index_mut.ensures.value in
    let has = rw c.clients.ensures.clients at c.run_step-commit.ensures in
    let next = ran_meets i.monitor i.plan i.scripts i.state c.run_step-commit.new.state i.owner i.commits.items i.positions.items c.args.client one c.run_step-commit.new.position c.run_step-commit.result c.self.invariant.0 here has in
    rw (c.push_reserved.ensures.items, c.push_reserved.ensures.capacity) (next, c.self.invariant.1)

pub returns : goal.returns
returns c =
    let i = c.self.inside in
    let one = c.index_mut.result.now in
    let goes : Goes (machine_of i.monitor i.plan i.scripts i.state i.owner i.commits.items i.positions.items) c.args.client ways.Runs = rw (← c.self.view_is) at c.requires in
    let here = goes_at i.monitor i.plan i.scripts i.state i.owner i.commits.items i.positions.items c.args.client one ways.Runs c.self.invariant.0 goes c.index_mut.ensures.value in
    let has = rw c.clients.ensures.clients at c.run_step-commit.ensures in (
      ap (λ (m : Machine). m.system) c.self.view_is,
      rw (← c.self.view_is, c.push_reserved.ensures.items) (
        one.place,
        c.run_step-commit.new.position.place,
        c.run_step-commit.new.state,
        runs i.monitor i.plan i.scripts i.state c.run_step-commit.new.state i.owner i.commits.items i.positions.items c.args.client one c.run_step-commit.new.position c.run_step-commit.result here has,
      ),
    )
