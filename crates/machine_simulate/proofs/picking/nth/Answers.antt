use Rattle.std.proofs.Common.{◌<◌, ◌+◌, length, slice_get, ap, ◌∙◌, arith, rules}
use Rattle.machine_simulate.specs.inner.Turns.{is_one, those}
use Rattle.machine_simulate.proofs.Choosing.{from_on, is_found, found_later, found_after, none_left}
use Rattle.machine_simulate.proofs.picking.nth.Goals as goal
use Rattle.machine_simulate.proofs.picking.nth.Goals.{then-is_one+else-before-eq0, else-is_one}

pub returns-then-before-eq0-clause-at : goal.returns-then-before-eq0-clause-at
returns-then-before-eq0-clause-at c =
    let within : c.loop-client.client < length c.args.free.now.system.clients = omega (arith, c.loop-client-test.true, c.count_clients-client-end.ensures.count) in
    is_found (is_one c.args.who c.args.free.now) c.loop-client.client (length c.args.free.now.system.clients) c.loop-client.before (slice_get (those c.args.who c.args.free.now) c.args.position) within (search rules) c.if-before-eq0.true c.loop-client.invariant

pub loop-client-preserved : goal.loop-client-preserved
loop-client-preserved c =
    let within : c.loop-client.client < length c.args.free.now.system.clients = omega (arith, c.loop-client-test.true, c.count_clients-client-end.ensures.count) in
    let rest = from_on (is_one c.args.who c.args.free.now) (c.loop-client.client + 1) (length c.args.free.now.system.clients) in
    elim c.if-is_one.branch [
      | then-is_one+else-before-eq0 w ↦ ap (slice_get rest) w.before-is
          ∙ found_later (is_one c.args.who c.args.free.now) c.loop-client.client (length c.args.free.now.system.clients) c.loop-client.before (slice_get (those c.args.who c.args.free.now) c.args.position) within (search rules) (omega arith) c.loop-client.invariant
      | else-is_one w ↦ ap (slice_get rest) w.before-is
          ∙ found_after (is_one c.args.who c.args.free.now) c.loop-client.client (length c.args.free.now.system.clients) c.loop-client.before (slice_get (those c.args.who c.args.free.now) c.args.position) within (search rules) c.loop-client.invariant
    ]

pub unreachable-requires : goal.unreachable-requires
unreachable-requires c =
    none_left (is_one c.args.who c.args.free.now) c.loop-client.client (length c.args.free.now.system.clients) c.loop-client.before c.args.position (those c.args.who c.args.free.now)
    (omega (arith, c.loop-client-test.false, c.count_clients-client-end.ensures.count)) c.loop-client.invariant c.requires
