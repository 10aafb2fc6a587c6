use Rattle.logic_wp.proofs.PathsMade.{continued_more}
use Rattle.logic_wp.proofs.pathing.joined.Goals as goal

pub loop-first-preserved : goal.loop-first-preserved
loop-first-preserved c =
    continued_more c.args.firsts.now c.args.rests.now c.loop-first.paths.items c.push_continued.new.paths.items c.loop-first.first-index c.first-item.result c.loop-first-test.true c.first-item.is c.loop-first.invariant
    (rw c.steps.ensures at c.in_ok-push_continued.ensures)
