use Rattle.machine_explicit.proofs.Rounds.{ring_cleared}
use Rattle.machine_explicit.proofs.rings.Rings.clear.Goals as goal

pub returns : goal.returns
returns c = rw (← c.self.view_is) (ring_cleared c.self.inside.rings.items c.args.condition c.index_mut.result.now c.clear.new.self c.clear.ensures)
