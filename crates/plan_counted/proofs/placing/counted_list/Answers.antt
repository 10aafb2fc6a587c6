use Rattle.std.proofs.Common.{◌+◌, ◌++◌, List, Option, ap, ap₂, sym, subst, ◌∙◌}
use Rattle.std.specs.Option.{option_to_list}
use Rattle.machine_events.specs.declared.plan.Note.{Note}
use Rattle.machine_events.specs.Rising.{AreRising}
use Rattle.plan_place.proofs.NotesOn.{made, made_more, made_rise}
use Rattle.plan_counted.specs.Counted.{told_on}
use Rattle.plan_counted.proofs.Table.{column_is, made_on, on_theirs}
use Rattle.plan_counted.proofs.placing.counted_list.Goals as goal

pub loop-index-preserved : goal.loop-index-preserved
loop-index-preserved c =
    let f = made_on c.args.columns.now c.args.block c.args.notes.now in
    let index = c.loop-index.index in
    c.in_ok-push_some.ensures ∙ ap (λ (own : List Note). own ++ option_to_list c.told_on-note.result) c.loop-index.invariant
    ∙ ap (λ (found : Option Note). made f 1 index ++ option_to_list found)
    (c.told_on-note.ensures ∙ ap₂ (told_on (index + 1) c.args.block) (c.index-columns-index.is ∙ sym (column_is c.args.columns.now index _ c.loop-index-test.true)) c.note_on.ensures)
    ∙ sym (made_more f index)

pub of-requires : goal.of-requires
of-requires c =
    let f = made_on c.args.columns.now c.args.block c.args.notes.now in
    subst AreRising (sym c.loop-index.invariant) (made_rise f (on_theirs c.args.columns.now c.args.block c.args.notes.now) c.loop-index.index).rising
