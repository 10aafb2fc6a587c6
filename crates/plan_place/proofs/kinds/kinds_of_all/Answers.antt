use Rattle.std.proofs.Common.{ℕ, ◌+◌, arith}
use Rattle.std.proofs.lemmas.Grind.{common_steps}
use Rattle.machine_events.specs.declared.plan.CondKind.{CondKind}
use Rattle.plan_claims.specs.Backing.{kind_claims}
use Rattle.plan_place.specs.inner.Answers.{IsKindOf}
use Rattle.plan_place.proofs.Placing.{each_more, proofs_more}
use Rattle.plan_place.proofs.kinds.kinds_of_all.Goals as goal

pub loop-index-preserved : goal.loop-index-preserved
loop-index-preserved c =
    let monitor = c.args.monitor.now in
    let kept = c.args.kept.now in
    let before = c.loop-index.kinds.items in
    let index = c.loop-index.index in
    let invariant = c.loop-index.invariant in
    let kind = c.in_ok-kind_of.field-0 in
    let made = c.in_ok-push.ensures.items in
    let many = invariant.many in record {
      many = grind (arith, common_steps, made, many);
      each = each_more (λ (one : ℕ × CondKind). IsKindOf monitor kept one.0 one.1) 1 before c.push.new.self.items kind (index + 1) made (omega arith) invariant.each c.in_ok-kind_of.ensures.kind;
      proved = proofs_more monitor kept (λ (one : ℕ × CondKind). kind_claims monitor one.0 one.1) 1 before c.push.new.self.items kind (index + 1)
          c.loop-index.proofs.items c.kind_of.new.proofs.items made (omega arith) invariant.proved c.in_ok-kind_of.ensures.proofs;
    }
