use Rattle.plan_candidates.specs.inner.Starts.{starts_true}
use Rattle.plan_candidates.proofs.ListSteps.{kept_more}
use Rattle.plan_candidates.proofs.starts.passing.Goals as goal

pub loop-candidate-preserved : goal.loop-candidate-preserved
loop-candidate-preserved c =
    kept_more (starts_true c.args.fields.now) c.loop-candidate.kept.items c.push_if.new.kept.items c.args.all.now c.loop-candidate.candidate-index _ c.starts_true-is_true.result
    c.loop-candidate-test.true c.starts_true-is_true.ensures c.loop-candidate.invariant c.in_ok-push_if.ensures
