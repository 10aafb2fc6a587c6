use Rattle.std.proofs.Common.{◌++◌, ◌∙◌, [], arith}
use Rattle.plan_why.proofs.Things.{listed_more}
use Rattle.plan_needs.specs.Needs.{broadcasts_of_block}
use Rattle.plan_needs.proofs.broadcasting.broadcasts_of.Goals as goal

pub loop-index-preserved : goal.loop-index-preserved
loop-index-preserved c =
    listed_more (broadcasts_of_block c.args.counted.now.columns) 0 c.loop-index.index c.loop-index.index c.items-lists.result.now c.index-lists-index.result [] c.loop-index.all.items c.push_broadcasts.new.all.items c.loop-index-test.true (omega arith) c.loop-index.invariant
    (c.in_ok-push_broadcasts.ensures ∙ (λ i. c.loop-index.all.items ++ broadcasts_of_block (c.items-columns.ensures i) c.loop-index.index ((c.notes.ensures.notes ∙ c.index-lists-index.is) i)))
