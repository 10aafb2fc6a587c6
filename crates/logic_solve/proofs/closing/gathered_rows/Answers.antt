use Rattle.logic_solve.proofs.LiteralLemmas.{one_more_gathered}
use Rattle.logic_solve.proofs.closing.gathered_rows.Goals as goal

pub loop-i-preserved : goal.loop-i-preserved
loop-i-preserved c =
    one_more_gathered c.args.literals.now c.loop-i.i c.index-literals-i.result c.loop-i.kept c.gather_row.new.kept c.loop-i-test.true c.index-literals-i.is c.loop-i.invariant c.in_ok-gather_row.ensures
