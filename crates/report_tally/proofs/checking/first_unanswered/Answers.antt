use Rattle.std.proofs.Common.{refl, arith}
use Rattle.report_tally.proofs.Answered.{all_answered, answered_more, first_here}
use Rattle.report_tally.proofs.checking.first_unanswered.Goals as goal

pub returns-then-not-answered : goal.returns-then-not-answered
returns-then-not-answered c = record {
  first =
      first_here c.args.monitor.now c.args.kept.now c.args.questions.now c.args.certs.now c.loop-place.place _ _ c.index-certs-place.result _ c.in_ok-answered.answered c.loop-place-test.true
      c.requires.each refl c.index-certs-place.is c.in_ok-answered.ensures c.if-not-answered.true c.loop-place.invariant;
  near = omega (arith, c.loop-place-test.true, c.requires.each);
}

pub loop-place-preserved : goal.loop-place-preserved
loop-place-preserved c =
    answered_more c.args.monitor.now c.args.kept.now c.args.questions.now c.args.certs.now c.loop-place.place _ _ c.index-certs-place.result _ c.in_ok-answered.answered c.loop-place-test.true
    c.requires.each refl c.index-certs-place.is c.in_ok-answered.ensures c.if-not-answered.false c.loop-place.invariant

pub returns : goal.returns
returns c = record {
  first = all_answered c.args.monitor.now c.args.kept.now c.args.questions.now c.args.certs.now c.loop-place.place c.loop-place-test.false c.loop-place.invariant;
  near = tt;
}
