use Rattle.std.proofs.Common.{List, ◌++◌, [], ◌∷◌, ap, ◌∙◌, arith}
use Rattle.machine_events.specs.declared.plan.Note.{Note}
use Rattle.plan_counted.specs.Counted.{counted_notes}
use Rattle.plan_place.proofs.Numbered.{mapped_turn}
use Rattle.plan_counted.proofs.placing.counted_lists.Goals as goal

pub loop-index-preserved : goal.loop-index-preserved
loop-index-preserved c =
    let before = c.loop-index.made.items in
    let index = c.loop-index.index in
    let counted = counted_notes c.args.columns.now in
    mapped_turn counted 0 index index c.args.lists.now _ c.index-lists-index.result before c.push.new.self.items
    c.loop-index-test.true (omega arith) c.index-lists-index.is c.loop-index.invariant
    (c.in_ok-push.ensures.items ∙ ap (λ (own : List Note). before ++ own ∷ []) (c.in_ok-counted_list.ensures ∙ ap (counted index) c.notes.ensures.notes))
