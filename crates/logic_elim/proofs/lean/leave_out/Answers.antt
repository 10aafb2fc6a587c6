use Rattle.logic_elim.specs.inner.Leaving.{without}
use Rattle.logic_elim.proofs.LeanLemmas.{walk_step}
use Rattle.logic_elim.proofs.lean.leave_out.Goals as goal

pub loop-i-preserved : goal.loop-i-preserved
loop-i-preserved c = walk_step (without c.args.number) c.args.later.now c.loop-i.later c.loop-i.i c.without.result _ c.loop-i.invariant c.loop-i-test.true c.without.ensures
