use Rattle.std.proofs.Common.{ap, ◌∙◌}
use Rattle.logic_linear.specs.Negation.{can_negate}
use Rattle.lang_monitor.specs.declared.query.Query.{Query}
use Rattle.plan_count.proofs.GuardCuts.{free_negates}
use Rattle.plan_count.proofs.Measured.{measured}
use Rattle.plan_count.proofs.makers.parts_of.Goals as goal

pub negate-requires : goal.negate-requires
negate-requires c = ap can_negate c.in_ok-free.ensures ∙ free_negates _ c.args.row c.in_ok-guard.ensures.post

pub returns : goal.returns
returns c =
    measured c.guard_without_inputs_stays.ensures c.args.monitor.now c.args.kept.now c.args.condition c.args.row c.args.block c.into_items.result.items c.into_items-2.result.items
    c.in_ok-guard.field-0.post c.in_ok-idle.field-0.post c.in_ok-free.free _ c.in_ok-negate.field-0 c.conditions-conditions.ensures.rule c.requires.may
    (c.into_items.ensures ∙ ap (λ (query : Query). query.hyps) c.in_ok-hyps.ensures.made)
    (c.into_items-2.ensures ∙ ap (λ (query : Query). query.hyps) c.in_ok-idle.ensures.made)
    (ap (λ (query : Query). query.post) c.in_ok-guard.ensures.made)
    (ap (λ (query : Query). query.post) c.in_ok-idle.ensures.made)
    (c.form.view_is ∙ c.in_ok-form.ensures) c.in_ok-free.ensures c.in_ok-negate.ensures c.in_ok-idle.ensures.post
