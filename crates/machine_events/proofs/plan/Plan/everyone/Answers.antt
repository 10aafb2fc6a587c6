use Rattle.std.proofs.Common.{◌≡◌, List, map, ap, ap₂, subst, ◌∙◌}
use Rattle.lang_monitor.specs.declared.monitor.Block.{Block}
use Rattle.lang_monitor.specs.declared.monitor.Condition.{Condition}
use Rattle.machine_events.specs.declared.plan.CondKind.TheVariants as kinds
use Rattle.machine_events.specs.Plans.{FitsPlan, IsLawful, broadcasts_from, everyone}
use Rattle.machine_events.proofs.Everyone.{plan_is, everyone_fits, everyone_lawful}
use Rattle.machine_events.proofs.plan.Plan.everyone.Goals as goal
use Rattle.machine_events.proofs.plan.Plan.everyone.Goals.{After-of-3}

made : (c : After-of-3) → everyone c.args.monitor.now
    ≡ record { kept = c.of.result; kinds = c.of-2.result; notes = c.of-3.result }
made c =
    plan_is c.args.monitor.now (record { kept = c.of.result; kinds = c.of-2.result; notes = c.of-3.result }) (c.of.ensures ∙ c.new.ensures.items)
    (c.of-2.ensures ∙ c.in_ok-kinds.ensures ∙ ap (map (λ condition. kinds.Broadcast)) c.conditions.ensures.conditions)
    (c.of-3.ensures ∙ c.in_ok-notes.ensures
    ∙ ap₂ (λ (conditions : List Condition) (blocks : List Block). map (λ block. broadcasts_from 1 conditions) blocks) c.conditions-2.ensures.conditions c.blocks-2.ensures.blocks)

pub returns-clause-fits : goal.returns-clause-fits
returns-clause-fits c = subst (FitsPlan c.args.monitor.now) (made c) (everyone_fits c.args.monitor.now)

pub returns-clause-lawful : goal.returns-clause-lawful
returns-clause-lawful c = subst (IsLawful c.args.monitor.now) (made c) (everyone_lawful c.args.monitor.now)
