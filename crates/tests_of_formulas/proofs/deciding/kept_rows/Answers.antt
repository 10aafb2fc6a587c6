use Rattle.tests_of_formulas.proofs.Rows.{one_more}
use Rattle.tests_of_formulas.proofs.deciding.kept_rows.Goals as goal

pub loop-i-preserved : goal.loop-i-preserved
loop-i-preserved c =
    one_more c.args.rows.now c.loop-i.i c.index-rows-i.result c.loop-i.kept.items c.push.new.self.items c.in_ok-unnumbered.field-0 c.loop-i-test.true c.index-rows-i.is
    c.in_ok-unnumbered.ensures c.in_ok-push.ensures.items c.loop-i.invariant
