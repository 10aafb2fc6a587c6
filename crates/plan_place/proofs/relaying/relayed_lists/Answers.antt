use Rattle.std.proofs.Common.{List, ◌++◌, [], ◌∷◌, ap, ◌∙◌, arith}
use Rattle.machine_events.specs.declared.plan.Note.{Note}
use Rattle.plan_place.specs.Relayed.{relayed_notes}
use Rattle.plan_place.proofs.Numbered.{mapped_turn}
use Rattle.plan_place.proofs.relaying.relayed_lists.Goals as goal

pub loop-index-preserved : goal.loop-index-preserved
loop-index-preserved c =
    let before = c.loop-index.made.items in
    let index = c.loop-index.index in
    let relayed = relayed_notes c.args.monitor.now c.args.kinds.now in
    mapped_turn relayed 0 index index c.args.lists.now _ c.index-lists-index.result before c.push.new.self.items
    c.loop-index-test.true (omega arith) c.index-lists-index.is c.loop-index.invariant
    (c.in_ok-push.ensures.items ∙ ap (λ (own : List Note). before ++ own ∷ []) (c.in_ok-relayed_list.ensures ∙ ap (relayed index) c.notes.ensures.notes))
