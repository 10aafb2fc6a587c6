use Rattle.std.proofs.Common.{rules, ap, subst, ◌++◌, ◌∙◌}
use Rattle.std.proofs.lemmas.Int.{to_z-of_z}
use mir.Syntax.{w128}
use mir.Val.{SFits}
use Rattle.logic_linear.specs.declared.formula.Formula.{Formula}
use Rattle.logic_linear.specs.Linear.{IsLinear}
use Rattle.logic_linear.specs.Negation.{can_negate}
use Rattle.plan_count.specs.inner.Rows.{tied}
use Rattle.plan_count.proofs.Measured.{leaves_made, still_can_at}
use Rattle.plan_count.proofs.makers.leaves.Goals as goal

pub returns-clause-made : goal.returns-clause-made
returns-clause-made c =
    let fits : SFits w128 c.net-net.result = search rules in
    let read = to_z-of_z w128 c.net-net.result fits in
    let takes = c.takes_at.ensures in
    let told = c.net-net.ensures.net in
    let are = c.in_ok-hyps.field-0 in
    leaves_made c.args.monitor.now c.args.kept.now c.args.condition c.args.row c.args.block are.hyps.items are.idle.items are.guard are.shut are.form are.bounded c.args.gives _ c.of.result c.in_ok-post.post
    c.in_ok-hyps.ensures
    (c.of.ensures ∙ c.in_ok-hyps-2.ensures ∙ ap (λ (one : Formula). are.hyps.items ++ tied are.guard one are.form) c.in_ok-copy.ensures)
    c.in_ok-post.ensures (cc)

pub returns-clause-post : goal.returns-clause-post
returns-clause-post c =
    let fits : SFits w128 c.net-net.result = search rules in
    let read = to_z-of_z w128 c.net-net.result fits in
    let are = c.in_ok-hyps.field-0 in
    ap can_negate c.in_ok-post.ensures
    ∙ still_can_at are.shut are.bounded are.form _ c.net-net.result c.in_ok-hyps.ensures.shuts c.in_ok-hyps.ensures.bounds
    (subst IsLinear c.form.view_is c.form.invariant) c.in_ok-hyps.ensures.countable (cc) c.net-net.ensures.small
