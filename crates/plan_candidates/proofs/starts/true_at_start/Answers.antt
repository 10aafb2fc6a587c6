use Rattle.lang_monitor.specs.Candidates.{candidates_of}
use Rattle.plan_candidates.proofs.StartTests.{all_passing}
use Rattle.plan_candidates.proofs.starts.true_at_start.Goals as goal

pub returns : goal.returns
returns c =
    all_passing c.args.monitor.now c.fields.result.now (candidates_of c.args.monitor.now) c.deref.result.now c.in_ok-all.all.items c.in_ok-kept.kept.items c.fields.ensures.rule c.fields.ensures.fields c.deref.ensures.value
    c.in_ok-all.ensures c.in_ok-kept.ensures
