use Rattle.std.proofs.Common.{List, Option, ap, subst, ◌∙◌}
use Rattle.plan_counted.specs.declared.counted.Column.{Column}
use Rattle.plan_why.specs.Things.{IsThingOf}
use Rattle.plan_needs.specs.Needs.{counted_row}
use Rattle.plan_needs.proofs.ByRows.{row_at}
use Rattle.plan_needs.proofs.Sparing.{kind_asked, note_asked, test_asked}
use Rattle.plan_needs.proofs.answering.failure_at.Goals as goal

pub note_failure-requires-clause-row : goal.note_failure-requires-clause-row
note_failure-requires-clause-row c =
    row_at c.args.monitor.now c.args.counted.now.plan c.args.counted.now.columns c.in-Note.condition c.args.block c.counted_row-row.result c.requires.backed
    (subst (IsThingOf c.args.monitor.now) c.in-Note.is c.requires.thing).0 c.requires.block
    (c.counted_row-row.ensures ∙ ap (λ (all : List (Option Column)). counted_row all c.in-Note.condition) c.items.ensures)

pub returns-in_ok-note_failure-in-Note : goal.returns-in_ok-note_failure-in-Note
returns-in_ok-note_failure-in-Note c =
    note_asked c.args.monitor.now c.args.counted.now c.args.thing c.in-Note.block c.in-Note.condition c.args.block c.items-kept.result.now c.items.result.now c.counted_row-row.result c.in_ok-note_failure-in-Note.field-0
    c.in-Note.is c.items-kept.ensures c.items.ensures c.counted_row-row.ensures c.in_ok-note_failure-in-Note.ensures

pub returns-in_ok-kind_failure-in-Broadcast : goal.returns-in_ok-kind_failure-in-Broadcast
returns-in_ok-kind_failure-in-Broadcast c =
    kind_asked c.args.monitor.now c.args.counted.now c.args.thing c.in-Broadcast.condition c.args.block c.items-kept.result.now c.in_ok-kind_failure-in-Broadcast.field-0
    c.in-Broadcast.is c.items-kept.ensures c.in_ok-kind_failure-in-Broadcast.ensures

pub returns-in_ok-claim_failure-in-Test : goal.returns-in_ok-claim_failure-in-Test
returns-in_ok-claim_failure-in-Test c =
    test_asked c.args.monitor.now c.args.counted.now c.args.thing c.in-Test.block c.in-Test.condition c.args.block c.items-kept.result.now c.in_ok-claim_failure-in-Test.field-0
    c.in-Test.is c.items-kept.ensures c.in_ok-claim_failure-in-Test.ensures
