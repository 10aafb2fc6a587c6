use Rattle.std.proofs.Common.{◌+◌, ◌++◌, [], ◌∷◌, ap, refl, sym, ◌∙◌, arith, ℕ}
use Rattle.machine_events.specs.declared.plan.CondKind.{CondKind}
use Rattle.plan_place.proofs.Numbered.{mapped_turn}
use Rattle.plan_counted.specs.Counted.{column_at, counted_kind}
use Rattle.plan_counted.proofs.Table.{column_is}
use Rattle.plan_counted.proofs.placing.counted_kinds.Goals as goal

pub loop-index-preserved : goal.loop-index-preserved
loop-index-preserved c =
    let columns = c.args.columns.now in
    let index = c.loop-index.index in
    let before = c.loop-index.made.items in
    mapped_turn (λ (number : ℕ) (kind : CondKind). counted_kind kind (column_at columns number)) 1 index (index + 1) c.args.kinds.now _ _ before c.push.new.self.items
    c.loop-index-test.true (omega arith) refl c.loop-index.invariant
    (c.in_ok-push.ensures.items ∙ ap (λ (kind : CondKind). before ++ kind ∷ [])
    (c.counted_kind.ensures ∙ ap (counted_kind _) (c.index-columns-index.is ∙ sym (column_is columns index _ (omega (arith, c.requires))))))
