use Rattle.std.proofs.Common.{◌∙◌, ap}
use Rattle.std.specs.Prelude.{List}
use Rattle.lang_monitor.specs.declared.monitor.Field.{Field}
use Rattle.plan_candidates.specs.inner.Starts.{starts_true}
use Rattle.plan_candidates.proofs.StartTests.{one_fails, one_tested}
use Rattle.plan_candidates.proofs.starts.is_true_at_start.Goals as goal

pub returns-clause-always : goal.returns-clause-always
returns-clause-always c =
    one_tested c.args.monitor.now c.args.candidate c.starts_true.result c.fields.ensures.rule
    (c.starts_true.ensures ∙ ap (λ (fields : List Field). starts_true fields c.args.candidate) c.fields.ensures.fields)

pub returns-clause-fails : goal.returns-clause-fails
returns-clause-fails c =
    one_fails c.args.monitor.now c.args.candidate c.starts_true.result c.fields.ensures.rule
    (c.starts_true.ensures ∙ ap (λ (fields : List Field). starts_true fields c.args.candidate) c.fields.ensures.fields)
