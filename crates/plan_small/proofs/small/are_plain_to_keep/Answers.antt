use Rattle.std.proofs.Common.{arith}
use Rattle.plan_small.proofs.Smallness.{kept_all, kept_apart, kept_more}
use Rattle.plan_small.proofs.small.are_plain_to_keep.Goals as goal

pub returns-then-not-plain : goal.returns-then-not-plain
returns-then-not-plain c = kept_apart c.args.monitor.now c.args.block c.args.all.now c.loop-candidate.candidate-index _ c.in_ok-plain.plain c.loop-candidate-test.true c.in_ok-plain.ensures c.if-not-plain.true

pub loop-candidate-preserved : goal.loop-candidate-preserved
loop-candidate-preserved c =
    kept_more c.args.monitor.now c.args.block c.args.all.now c.loop-candidate.candidate-index _ c.in_ok-plain.plain c.loop-candidate-test.true c.in_ok-plain.ensures c.if-not-plain.false c.loop-candidate.invariant

pub returns : goal.returns
returns c = let past = c.loop-candidate-test.false in kept_all c.args.monitor.now c.args.block c.args.all.now c.loop-candidate.candidate-index (omega arith) c.loop-candidate.invariant
