use Rattle.std.proofs.Common.{arith}
use Rattle.machine_explicit.proofs.Rounds.{ring_left}
use Rattle.machine_explicit.proofs.rings.Rings.remove.Goals as goal

pub returns : goal.returns
returns c =
    let i = c.self.inside in
    rw (← c.self.view_is) (ring_left i.rings.items c.args.condition c.args.client c.index_mut.result.now c.take_out.new.ring (omega (arith, c.if-condition-len.false, c.len.ensures, i.rings.ok.0)) c.index_mut.ensures.value c.take_out.ensures)
