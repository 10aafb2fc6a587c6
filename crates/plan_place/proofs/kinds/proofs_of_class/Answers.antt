use Rattle.std.proofs.Common.{◌≡◌, get_or, List, Some, ap, subst, ◌∙◌}
use Rattle.std.specs.Prelude.{slice_get}
use Rattle.std.proofs.lemmas.Option.{slice_get-get_or}
use Rattle.lang_monitor.specs.declared.claim.Claim.TheVariants as claims
use Rattle.lang_monitor.specs.declared.monitor.Block.{Block}
use Rattle.plan_place.specs.inner.Answers.{IsAnswerTo}
use Rattle.plan_place.proofs.Placing.{class_with, class_without}
use Rattle.plan_place.proofs.kinds.proofs_of_class.Goals as goal
use Rattle.plan_place.proofs.kinds.proofs_of_class.Goals.{then-blocks-index+in_ok-proof+in-Some+in_ok-push, else-blocks-index}

pub loop-index-preserved : goal.loop-index-preserved
loop-index-preserved c =
    let monitor = c.args.monitor.now in
    let kept = c.args.kept.now in
    let condition = c.args.condition in
    let index = c.loop-index.index in
    let list = c.blocks-blocks.result.now in
    let block = get_or list index c.index-blocks-index.result in
    let found = slice_get-get_or list index c.index-blocks-index.result c.loop-index-test.true in
    let there = subst (λ (all : List Block). slice_get all index ≡ Some block) c.blocks-blocks.ensures.blocks found in
    let before = c.loop-index.proofs.items in
    let now = c.if-blocks-index.proofs.items in
    elim c.if-blocks-index.branch [
      | then-blocks-index+in_ok-proof+in-Some+in_ok-push w ↦
          class_with monitor kept condition index block w.in-Some.proof before now there w.if-blocks-index.true
          (subst (IsAnswerTo monitor kept (claims.One condition index)) w.in-Some.is w.in_ok-proof.ensures)
          (ap (λ v. v.items) w.proofs-is ∙ w.in_ok-push.ensures.items) c.loop-index.invariant
      | else-blocks-index w ↦
          class_without monitor kept condition index block before now there w.if-blocks-index.false (ap (λ v. v.items) w.proofs-is) c.loop-index.invariant
    ]
