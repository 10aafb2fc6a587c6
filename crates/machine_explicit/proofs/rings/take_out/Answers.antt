use Rattle.std.proofs.Common.{arith}
use Rattle.machine_explicit.proofs.Rounds.{turned_fits, turned_more}
use Rattle.machine_explicit.proofs.rings.take_out.Goals as goal

pub turn-requires : goal.turn-requires
turn-requires c =
    turned_fits c.args.client c.loop-turn._turn c.args.ring.now.capacity c.args.ring.now.items c.loop-turn.ring c.loop-turn.invariant
    (omega (arith, c.loop-turn-test.true, c.len-turn-end.ensures.len)) (omega (arith, c.len-turn-end.ensures.len, c.len-turn-end.ensures.within.0))

pub loop-turn-preserved : goal.loop-turn-preserved
loop-turn-preserved c =
    turned_more c.args.client c.loop-turn._turn c.args.ring.now.capacity c.args.ring.now.items c.loop-turn.ring c.turn.new.ring c.loop-turn.invariant
    (omega (arith, c.loop-turn-test.true, c.len-turn-end.ensures.len)) c.turn.ensures
