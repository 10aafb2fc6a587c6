use Rattle.std.proofs.Common.{◌+◌, ◌++◌, [], ◌∷◌, ap, refl, ◌∙◌, arith}
use Rattle.machine_events.specs.declared.plan.CondKind.{CondKind}
use Rattle.plan_place.specs.Relayed.{relayed_kind}
use Rattle.plan_place.proofs.Numbered.{mapped_turn}
use Rattle.plan_place.proofs.relaying.relayed_kinds.Goals as goal

pub loop-index-preserved : goal.loop-index-preserved
loop-index-preserved c =
    let before = c.loop-index.made.items in
    mapped_turn (relayed_kind c.args.monitor.now) 1 c.loop-index.index (c.loop-index.index + 1) c.args.kinds.now _ _ before c.push.new.self.items
    c.loop-index-test.true (omega arith) refl c.loop-index.invariant
    (c.in_ok-push.ensures.items ∙ ap (λ (kind : CondKind). before ++ kind ∷ []) c.relayed_kind.ensures)
