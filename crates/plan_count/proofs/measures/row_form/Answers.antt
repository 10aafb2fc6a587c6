use Rattle.std.proofs.Common.{◌-◌, ◌∙◌}
use Rattle.logic_linear.specs.Places.{rows_of}
use Rattle.plan_count.proofs.GuardRows.{form_missing}
use Rattle.plan_count.proofs.measures.row_form.Goals as goal

pub returns-in-None : goal.returns-in-None
returns-in-None c =
    (λ i. record { terms = (c.of.ensures.terms ∙ c.new.ensures.items) i; constant = c.of.ensures.constant i })
    ∙ form_missing (rows_of c.args.guard.now) (c.args.row - 1) c.in_ok-form.field-0 c.in_ok-form.ensures c.in-None.is
