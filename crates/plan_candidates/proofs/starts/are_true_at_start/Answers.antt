use Rattle.std.proofs.Common.{◌≡◌, ◌↔◌, true, All, IsTrue, subst}
use Rattle.std.specs.Prelude.{List}
use Rattle.lang_monitor.specs.declared.monitor.Field.{Field}
use Rattle.plan_candidates.specs.inner.Starts.{starts_true}
use Rattle.plan_candidates.proofs.StartTests.{all_hold, all_pass}
use Rattle.plan_candidates.proofs.starts.are_true_at_start.Goals as goal

pub returns : goal.returns
returns c =
    let both : IsTrue c.all_start_true.result ↔ All (λ candidate. starts_true c.args.monitor.now.fields candidate ≡ true) c.args.candidates.now =
    subst (λ (fields : List Field). IsTrue c.all_start_true.result ↔ All (λ candidate. starts_true fields candidate ≡ true) c.args.candidates.now) c.fields.ensures.fields c.all_start_true.ensures in (
      λ is. all_hold c.args.monitor.now c.args.candidates.now c.fields.ensures.rule (both.0 is),
      λ hold. both.1 (all_pass c.args.monitor.now c.args.candidates.now c.fields.ensures.rule hold),
    )
