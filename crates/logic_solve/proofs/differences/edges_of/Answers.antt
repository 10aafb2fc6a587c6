use Rattle.logic_solve.proofs.EdgeLemmas.{one_more_edge}
use Rattle.logic_solve.proofs.differences.edges_of.Goals as goal

pub loop-i-preserved : goal.loop-i-preserved
loop-i-preserved c =
    one_more_edge c.args.literals.now c.loop-i.i c.index-literals-i.result c.loop-i.edges.items c.note_edge.new.edges.items c.loop-i-test.true c.index-literals-i.is c.requires.differences c.note_edge.ensures.rule
    c.in_ok-note_edge.ensures.edges c.loop-i.invariant
