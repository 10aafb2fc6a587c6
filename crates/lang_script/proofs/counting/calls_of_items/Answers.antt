use Rattle.std.proofs.Common.{Err, ap, ◌∙◌}
use Rattle.lang_script.proofs.OverCalls.{item_stop, item_turn, items_end}
use Rattle.lang_script.proofs.counting.calls_of_items.Goals as goal

pub loop-item-preserved : goal.loop-item-preserved
loop-item-preserved c =
    item_turn c.args.before c.loop-item.count c.args.items.now c.loop-item.item-index c.item-item.result c.count_calls-calls.result c.loop-item-test.true c.item-item.is c.loop-item.invariant.0 c.count_calls-calls.ensures c.if-calls-count.false c.loop-item.invariant.1

pub returns-then-calls-count : goal.returns-then-calls-count
returns-then-calls-count c =
    ap (λ at. Err at) c.place_of.ensures ∙ item_stop c.args.before c.loop-item.count c.args.items.now c.loop-item.item-index c.item-item.result c.count_calls-calls.result c.loop-item-test.true c.item-item.is c.loop-item.invariant.0 c.count_calls-calls.ensures c.if-calls-count.true c.loop-item.invariant.1

pub returns : goal.returns
returns c = items_end c.args.before c.loop-item.count c.args.items.now c.loop-item.item-index c.loop-item-test.false c.loop-item.invariant.1
