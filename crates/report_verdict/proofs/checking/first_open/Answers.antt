use Rattle.std.proofs.Common.{rules, refl}
use Rattle.report_verdict.proofs.Answered.{all_checked, checked_more, first_here}
use Rattle.report_verdict.proofs.checking.first_open.Goals as goal

pub returns-then-not-proved : goal.returns-then-not-proved
returns-then-not-proved c = record {
  first =
      first_here c.args.monitor.now c.args.kept.now c.args.claims.now c.args.certs.now c.loop-place.place _ _ c.index-certs-place.result _ c.in_ok-proved.proved c.loop-place-test.true
      c.requires.each refl c.index-certs-place.is c.in_ok-proved.ensures c.if-not-proved.true c.loop-place.invariant;
  near = search rules;
}

pub loop-place-preserved : goal.loop-place-preserved
loop-place-preserved c =
    checked_more c.args.monitor.now c.args.kept.now c.args.claims.now c.args.certs.now c.loop-place.place _ _ c.index-certs-place.result _ c.in_ok-proved.proved c.loop-place-test.true
    c.requires.each refl c.index-certs-place.is c.in_ok-proved.ensures c.if-not-proved.false c.loop-place.invariant

pub returns : goal.returns
returns c = record {
  first = all_checked c.args.monitor.now c.args.kept.now c.args.claims.now c.args.certs.now c.loop-place.place c.loop-place-test.false c.loop-place.invariant;
  near = tt;
}
