use Rattle.std.proofs.Common.{ℕ, List, length, map, ap, ap₂, ◌∙◌, arith}
use Rattle.std.specs.List.{enumerate_from}
use Rattle.machine_events.specs.declared.plan.CondKind.{CondKind}
use Rattle.machine_events.specs.declared.plan.Note.{Note}
use Rattle.plan_place.specs.Relayed.{relayed_kinds, relayed_notes}
use Rattle.plan_place.proofs.relaying.relayed_plan.Goals as goal

pub relayed_kinds-requires : goal.relayed_kinds-requires
relayed_kinds-requires c =
    let rule = c.blocks-blocks.ensures.rule in
    omega (arith, ap {B = ℕ} length c.items-2.ensures, c.requires.kinds, rule.few_conditions)

pub relayed_lists-requires : goal.relayed_lists-requires
relayed_lists-requires c =
    let rule = c.blocks-blocks.ensures.rule in
    omega (arith, ap {B = ℕ} length c.items-4.ensures, c.requires.notes, rule.few_blocks)

pub returns : goal.returns
returns c =
    let monitor = c.args.monitor.now in
    let kept = c.of.ensures ∙ c.in_ok-kept.ensures ∙ c.items.ensures in
    let kinds = c.of-2.ensures ∙ c.in_ok-kinds.ensures ∙ ap (relayed_kinds monitor) c.items-2.ensures in
    let notes = c.of-3.ensures ∙ c.in_ok-notes.ensures
    ∙ ap₂ (λ (all_kinds : List CondKind) (lists : List (List Note)). map (λ (one : ℕ × List Note). relayed_notes monitor all_kinds one.0 one.1) (enumerate_from 0 lists)) c.items-3.ensures c.items-4.ensures in
    λ i. record { kept = kept i; kinds = kinds i; notes = notes i }
