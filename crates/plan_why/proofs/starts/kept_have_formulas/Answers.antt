use Rattle.std.proofs.Common.{◌≡◌, true, List, All, subst}
use Rattle.lang_monitor.specs.declared.monitor.Field.{Field}
use Rattle.lang_monitor.specs.Bodies.{fits_64}
use Rattle.lang_monitor.specs.Candidates.{candidates_of}
use Rattle.plan_why.proofs.Things.{kept_expressible}
use Rattle.plan_why.proofs.starts.kept_have_formulas.Goals as goal

pub returns : goal.returns
returns c =
    kept_expressible c.args.kept.now (candidates_of c.args.monitor.now) c.requires
    (c.candidates_are_expressible.ensures c.args.monitor.now c.fields.ensures.rule (subst (λ (fields : List Field). All (λ field. fits_64 field.start ≡ true) fields) c.fields.ensures.fields c.read_starts.ensures))
