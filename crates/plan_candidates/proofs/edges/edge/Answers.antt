use Rattle.std.proofs.Common.{List, [], ◌∷◌, ◌++◌, take, sym, ap, ◌∙◌}
use Rattle.lang_base.specs.declared.value.Value.{Value}
use Rattle.plan_candidates.specs.inner.Edges.{edge}
use Rattle.plan_candidates.proofs.StartChoices.{edge_all, edge_more}
use Rattle.plan_candidates.proofs.edges.edge.Goals as goal

pub loop-place-preserved : goal.loop-place-preserved
loop-place-preserved c =
    c.in_ok-push.ensures.items
    ∙ ap (λ (made : List Value). made ++ c.picked_at.result ∷ []) c.loop-place.invariant
    ∙ ap (λ (value : Value). take c.loop-place.place (edge c.args.fields.now c.args.top) ++ value ∷ []) c.picked_at.ensures
    ∙ sym (edge_more c.args.fields.now c.args.top c.loop-place.place c.loop-place-test.true)

pub returns : goal.returns
returns c = c.loop-place.invariant ∙ edge_all c.args.fields.now c.args.top c.loop-place.place c.loop-place-test.false
