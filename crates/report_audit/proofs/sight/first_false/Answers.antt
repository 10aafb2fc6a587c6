use Rattle.std.proofs.Common.{◌≡◌, true, refl}
use Rattle.lang_monitor.specs.Candidates.{candidate_truth}
use Rattle.report_verdict.proofs.Pairs.{all_taken}
use Rattle.report_audit.proofs.AtSight.{false_here, true_more}
use Rattle.report_audit.proofs.sight.first_false.Goals as goal

pub returns-then-not-is_true_at_start : goal.returns-then-not-is_true_at_start
returns-then-not-is_true_at_start c =
    false_here c.args.monitor.now c.args.kept.now c.loop-place.place _ _ c.is_true_at_start.result c.loop-place-test.true refl c.is_true_at_start.ensures.fails c.if-not-is_true_at_start.true c.loop-place.invariant

pub loop-place-preserved : goal.loop-place-preserved
loop-place-preserved c =
    true_more c.args.monitor.now c.args.kept.now c.loop-place.place _ _ c.is_true_at_start.result c.loop-place-test.true refl c.is_true_at_start.ensures.always c.if-not-is_true_at_start.false c.loop-place.invariant

pub returns : goal.returns
returns c = λ start admitted.
    all_taken (λ candidate. candidate_truth start candidate ≡ true) c.args.kept.now c.loop-place.place c.loop-place-test.false (c.loop-place.invariant start admitted)
