use Rattle.std.proofs.Common.{arith}
use Rattle.machine_explicit.proofs.Rounds.{ring_popped}
use Rattle.machine_explicit.proofs.rings.Rings.pop.Goals as goal

pub returns : goal.returns
returns c =
    let i = c.self.inside in
    rw (← c.self.view_is) (ring_popped i.rings.items c.args.condition c.index_mut.result.now c.pop_front-first.new.self (omega (arith, c.if-condition-len.false, c.len.ensures, i.rings.ok.0)) c.index_mut.ensures.value c.pop_front-first.ensures.items)
