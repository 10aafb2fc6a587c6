use Rattle.std.proofs.Common.{◌++◌, ◌∙◌, List, ap, arith}
use Rattle.machine_events.specs.declared.plan.Note.{Note}
use Rattle.plan_why.specs.Things.{tests_of_block}
use Rattle.plan_why.proofs.Things.{listed_more}
use Rattle.plan_why.proofs.listing.push_all_tests.Goals as goal

pub loop-index-preserved : goal.loop-index-preserved
loop-index-preserved c =
    listed_more tests_of_block 0 c.loop-index.index c.loop-index.index c.args.lists.now c.index-lists-index.result c.args.things.now.items c.loop-index.things.items c.push_tests.new.things.items c.loop-index-test.true (omega arith) c.loop-index.invariant
    (c.in_ok-push_tests.ensures ∙ ap (λ (notes : List Note). c.loop-index.things.items ++ tests_of_block c.loop-index.index notes) (c.notes.ensures.notes ∙ c.index-lists-index.is))
