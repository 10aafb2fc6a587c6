use Rattle.std.proofs.Common.{◌≡◌, ◌+◌, ◌++◌, List, length, Option, ap, sym, subst, ◌∙◌, arith}
use Rattle.std.specs.Option.{option_to_list}
use Rattle.machine_events.specs.declared.plan.Note.{Note}
use Rattle.machine_events.specs.Rising.{AreRising}
use Rattle.plan_place.specs.Relayed.{relayed_on}
use Rattle.plan_place.proofs.NotesOn.{made, made_more}
use Rattle.plan_place.proofs.RelayedPlans.{made_on, relayed_rise}
use Rattle.plan_place.proofs.relaying.relayed_list.Goals as goal

pub loop-index-preserved : goal.loop-index-preserved
loop-index-preserved c =
    let f = made_on c.args.monitor.now c.args.kinds.now c.args.block c.args.notes.now in
    let index = c.loop-index.index in
    c.in_ok-push_some.ensures ∙ ap (λ (own : List Note). own ++ option_to_list c.relayed_on-note.result) c.loop-index.invariant
    ∙ ap (λ (found : Option Note). made f 1 index ++ option_to_list found)
    (c.relayed_on-note.ensures ∙ ap (relayed_on c.args.monitor.now c.args.kinds.now c.args.block (index + 1)) c.note_on.ensures)
    ∙ sym (made_more f index)

pub of-requires : goal.of-requires
of-requires c =
    let f = made_on c.args.monitor.now c.args.kinds.now c.args.block c.args.notes.now in
    let count : c.loop-index.index ≡ length c.args.monitor.now.conditions = omega (arith, ap length c.conditions-index-end.ensures.conditions) in
    subst AreRising (sym (c.loop-index.invariant ∙ ap (made f 1) count)) (relayed_rise c.args.monitor.now c.args.kinds.now c.args.block c.args.notes.now).rising
