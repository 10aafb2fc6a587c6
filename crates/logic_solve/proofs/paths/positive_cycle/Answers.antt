use Rattle.std.proofs.Common.{sym, subst}
use Rattle.logic_solve.specs.inner.Paths.{IsReached}
use Rattle.logic_solve.proofs.PathLemmas.{high_now, none_reached}
use Rattle.logic_solve.proofs.paths.positive_cycle.Goals as goal

pub loop-cycle-init : goal.loop-cycle-init
loop-cycle-init c = subst (IsReached c.args.edges.now) (sym c.requires.none) (none_reached c.args.edges.now)

pub returns-in-Same : goal.returns-in-Same
returns-in-Same c = high_now c.args.edges.now c.loop-cycle.reached.items c.relax_all.new.reached.items c.loop-cycle.invariant (rw c.in-Same.is at c.in_ok-relax_all.ensures)
