use Rattle.std.proofs.Common.{◌≡◌, IsSomeAnd, map, refl}
use Rattle.std.specs.Prelude.{slice_get}
use Rattle.machine_explicit.specs.Sections.{can_start}
use Rattle.machine_explicit.specs.inner.Positions.{machine_of, standing_of}
use Rattle.machine_explicit.specs.inner.Waiting.{IsSettled}
use Rattle.machine_explicit.proofs.Beginning.{starts_by, starts_not}
use Rattle.machine_explicit.proofs.config.Config.start.Goals as goal

pub returns-then-not-starts : goal.returns-then-not-starts
returns-then-not-starts c = (refl, starts_not c.args.self.now c.args.client c.starts.result c.starts.ensures c.if-not-starts.true)

pub invariant_of-self : goal.invariant_of-self
invariant_of-self c =
    let i = c.self.inside in
    let settled : IsSettled (machine_of i.monitor i.plan i.scripts i.state i.owner i.commits.items i.positions.items).now = rw (← c.self.view_is) at c.requires.settled in
    let found : IsSomeAnd (slice_get (map (standing_of i.plan) i.positions.items) c.args.client) (λ standing. c.starts.result ≡ can_start (record { monitor = i.monitor; plan = i.plan; clients = i.scripts }) c.args.client standing.place standing.stage) =
    rw (← c.self.view_is) at c.starts.ensures in
    let starts = starts_by i.monitor i.plan i.scripts i.state i.owner i.commits.items i.positions.items c.args.client c.index_mut.result.now c.starts.result c.self.invariant.0 settled c.index_mut.ensures.value found c.if-not-starts.false in
    (starts.meets, c.self.invariant.1)

pub returns : goal.returns
returns c =
    let i = c.self.inside in
    let settled : IsSettled (machine_of i.monitor i.plan i.scripts i.state i.owner i.commits.items i.positions.items).now = rw (← c.self.view_is) at c.requires.settled in
    let found : IsSomeAnd (slice_get (map (standing_of i.plan) i.positions.items) c.args.client) (λ standing. c.starts.result ≡ can_start (record { monitor = i.monitor; plan = i.plan; clients = i.scripts }) c.args.client standing.place standing.stage) =
    rw (← c.self.view_is) at c.starts.ensures in
    let starts = starts_by i.monitor i.plan i.scripts i.state i.owner i.commits.items i.positions.items c.args.client c.index_mut.result.now c.starts.result c.self.invariant.0 settled c.index_mut.ensures.value found c.if-not-starts.false in
    rw (← c.self.view_is) starts.started
