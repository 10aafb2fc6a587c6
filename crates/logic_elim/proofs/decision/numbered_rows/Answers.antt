use Rattle.logic_elim.proofs.Beginning.{one_more_row}
use Rattle.logic_elim.proofs.decision.numbered_rows.Goals as goal

pub loop-i-preserved : goal.loop-i-preserved
loop-i-preserved c =
    one_more_row c.args.rows.now c.loop-i.i c.index-rows-i.result c.loop-i.kept.items c.push.new.self.items c.in_ok-numbered.field-0 c.loop-i-test.true c.index-rows-i.is
    c.in_ok-numbered.ensures.number c.in_ok-numbered.ensures.row c.numbered.ensures.rule c.in_ok-push.ensures.items c.loop-i.invariant
