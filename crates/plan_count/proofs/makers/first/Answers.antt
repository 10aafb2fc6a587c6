use Rattle.std.proofs.Common.{ap, subst, ◌∙◌}
use Rattle.logic_linear.specs.Linear.{IsLinear}
use Rattle.logic_linear.specs.Negation.{can_negate}
use Rattle.plan_count.proofs.Measured.{fresh_can}
use Rattle.plan_count.proofs.makers.first.Goals as goal

pub returns-clause-post : goal.returns-clause-post
returns-clause-post c =
    ap can_negate c.in_ok-post.ensures
    ∙ fresh_can c.in_ok-idle.field-0.shut c.in_ok-idle.field-0.bounded c.in_ok-idle.field-0.form c.in_ok-idle.ensures.shuts c.in_ok-idle.ensures.bounds
    (subst IsLinear c.form.view_is c.form.invariant) c.in_ok-idle.ensures.countable
