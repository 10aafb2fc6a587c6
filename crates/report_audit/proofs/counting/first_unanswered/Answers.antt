use Rattle.std.proofs.Common.{refl}
use Rattle.report_audit.proofs.CountAsked.{all_certified, certified_more, unanswered_here}
use Rattle.report_audit.proofs.counting.first_unanswered.Goals as goal

pub returns-then-not-certified : goal.returns-then-not-certified
returns-then-not-certified c =
    unanswered_here c.args.monitor.now c.args.kept.now c.args.questions.now c.loop-place.place _ _ c.in_ok-certified.certified c.loop-place-test.true refl c.in_ok-certified.ensures c.if-not-certified.true c.loop-place.invariant

pub loop-place-preserved : goal.loop-place-preserved
loop-place-preserved c =
    certified_more c.args.monitor.now c.args.kept.now c.args.questions.now c.loop-place.place _ _ c.in_ok-certified.certified c.loop-place-test.true refl c.in_ok-certified.ensures c.if-not-certified.false c.loop-place.invariant

pub returns : goal.returns
returns c = all_certified c.args.monitor.now c.args.kept.now c.args.questions.now c.loop-place.place c.loop-place-test.false c.loop-place.invariant
