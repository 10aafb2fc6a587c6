use Rattle.std.proofs.Common.{◌<◌, length, arith, rules}
use Rattle.machine_simulate.specs.inner.Turns.{is_one, those}
use Rattle.machine_simulate.proofs.Choosing.{counts_yes, counts_no}
use Rattle.machine_simulate.proofs.picking.count.Goals as goal
use Rattle.machine_simulate.proofs.picking.count.Goals.{then-is_one, else-is_one}

pub loop-client-preserved : goal.loop-client-preserved
loop-client-preserved c =
    let within : c.loop-client.client < length c.args.free.now.system.clients = omega (arith, c.loop-client-test.true, c.count_clients-client-end.ensures.count) in
    elim c.if-is_one.branch [
      | then-is_one w ↦ (
        omega (arith, c.loop-client.invariant.0, w.count-is),
        omega (arith, w.count-is, counts_yes (is_one c.args.who c.args.free.now) c.loop-client.client (length c.args.free.now.system.clients) c.loop-client.count (length (those c.args.who c.args.free.now)) within (search rules) c.loop-client.invariant.1),
      )
      | else-is_one w ↦ (
        omega (arith, c.loop-client.invariant.0, w.count-is),
        omega (arith, w.count-is, counts_no (is_one c.args.who c.args.free.now) c.loop-client.client (length c.args.free.now.system.clients) c.loop-client.count (length (those c.args.who c.args.free.now)) within (search rules) c.loop-client.invariant.1),
      )
    ]
