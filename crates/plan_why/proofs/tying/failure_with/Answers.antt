use Rattle.std.proofs.Common.{◌≡◌, Option, subst, sym, ◌∙◌}
use Rattle.std.specs.Prelude.{IfSome}
use Rattle.logic_linear.specs.declared.substitution.Put.TheVariants.{Number}
use Rattle.logic_linear.specs.Truth.{value_of}
use Rattle.logic_solve.specs.declared.valuation.Solution.{Solution}
use Rattle.logic_solve.specs.Solutions.{valuation_of, IsSolution}
use Rattle.plan_why.specs.inner.Running.{with_number}
use Rattle.plan_why.proofs.Solved.{block_there, failed_at}
use Rattle.plan_why.proofs.Ties.{tied_solves, tied_within}
use Rattle.plan_why.proofs.tying.failure_with.Goals as goal

pub solution-requires : goal.solution-requires
solution-requires c = tied_within (Number 32 c.in_ok-clone.field-0) c.args.formula.now c.in-Some.tied (sym c.in-Some.is ∙ c.in_ok-tied.ensures)

pub returns : goal.returns
returns c =
    let v = valuation_of c.in-Some-2.at in
    let put : valuation_of c.in-Some-3.before ≡ with_number 32 (value_of v c.args.form.now) v =
    subst (λ (found : Option Solution). IfSome found (λ next. valuation_of next ≡ with_number 32 (value_of v c.args.form.now) v)) c.in-Some-3.is c.in_ok-before.ensures in
    let solves = tied_solves c.substitution_keeps_truth.ensures 32 c.in_ok-clone.field-0 c.args.form.now c.args.formula.now c.in-Some.tied v (valuation_of c.in-Some-3.before) (sym c.in-Some.is ∙ c.in_ok-tied.ensures) c.in_ok-clone.ensures.cases
    (subst (IsSolution c.in-Some.tied) c.in-Some-2.is c.in_ok-at.ensures) put in
    failed_at c.args.monitor.now c.args.query.now c.args.formula.now c.in-Some-3.before c.in_ok-after.after c.index-blocks-query.result c.items.result.now c.negated_query_is_exact.ensures c.blocks-2.ensures.rule c.requires.block c.requires.formula
    solves (block_there c.args.monitor.now c.blocks-2.result.now c.args.query.now.block c.index-blocks-query.result c.blocks-2.ensures.blocks c.requires.block c.index-blocks-query.is) c.items.ensures c.in_ok-after.ensures
