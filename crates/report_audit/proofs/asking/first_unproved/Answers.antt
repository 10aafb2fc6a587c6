use Rattle.std.proofs.Common.{refl}
use Rattle.report_audit.proofs.Asked.{all_proved, open_here, proved_more}
use Rattle.report_audit.proofs.asking.first_unproved.Goals as goal

pub returns-then-not-proved : goal.returns-then-not-proved
returns-then-not-proved c =
    open_here c.args.monitor.now c.args.kept.now c.args.claims.now c.loop-place.place _ _ c.in_ok-proved.proved c.loop-place-test.true refl c.in_ok-proved.ensures c.if-not-proved.true c.loop-place.invariant

pub loop-place-preserved : goal.loop-place-preserved
loop-place-preserved c =
    proved_more c.args.monitor.now c.args.kept.now c.args.claims.now c.loop-place.place _ _ c.in_ok-proved.proved c.loop-place-test.true refl c.in_ok-proved.ensures c.if-not-proved.false c.loop-place.invariant

pub returns : goal.returns
returns c = all_proved c.args.monitor.now c.args.kept.now c.args.claims.now c.loop-place.place c.loop-place-test.false c.loop-place.invariant
