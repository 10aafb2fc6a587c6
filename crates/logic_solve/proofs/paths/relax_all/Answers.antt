use Rattle.std.proofs.Common.{take, ◌+◌}
use Rattle.std.specs.Prelude.{slice_index_or}
use Rattle.logic_solve.proofs.PathLemmas.{at_index, index_among, no_edge, one_fits, one_rises}
use Rattle.logic_solve.proofs.paths.relax_all.Goals as goal
use Rattle.logic_solve.proofs.paths.relax_all.Goals.{in-Same, in-Higher}

pub returns-in-Closed : goal.returns-in-Closed
returns-in-Closed c = rw c.in-Closed.is at c.in_ok-relax.ensures

pub loop-i-preserved : goal.loop-i-preserved
loop-i-preserved c = elim c.match-branch-2.branch [
  | in-Same w ↦ one_fits c.args.edges.now c.loop-i.i (slice_index_or c.args.edges.now c.loop-i.i no_edge) c.args.reached.now.items c.loop-i.reached.items c.relax.new.reached.items c.loop-i.higher c.match-branch-2.higher
      (at_index c.args.edges.now c.loop-i.i no_edge c.loop-i-test.true) c.loop-i.invariant w.higher-is (rw w.in-Same.is at c.in_ok-relax.ensures)
  | in-Higher w ↦ one_rises c.args.edges.now (take c.loop-i.i c.args.edges.now) (take (c.loop-i.i + 1) c.args.edges.now) c.args.reached.now.items c.loop-i.reached.items c.relax.new.reached.items c.loop-i.higher c.match-branch-2.higher
      c.loop-i.invariant w.higher-is (rw w.in-Higher.is at c.in_ok-relax.ensures)
]

pub relax-requires-clause-among : goal.relax-requires-clause-among
relax-requires-clause-among c = index_among c.args.edges.now c.loop-i.i c.loop-i-test.true
