use Rattle.std.proofs.Common.{arith, rules, ◌∙◌, ap, min, sym}
use Rattle.std.specs.Prelude.{sum_by}
use Rattle.lang_tree.specs.declared.tree.Item.{Item}
use Rattle.lang_script.specs.Scripts.{call_count}
use Rattle.lang_script.specs.inner.Counting.{ABOVE}
use Rattle.lang_script.proofs.Counts.{counts_all, counts_more, one_call_counted, repeat_counted}
use Rattle.lang_script.proofs.counting.+count_calls.Goals as goal

pub count_each-loop-item-preserved : goal.count_each-loop-item-preserved
count_each-loop-item-preserved t c =
    counts_more c.args.items.now c.loop-item.item-index c.item-item.result c.loop-item.count _ _ (search rules) c.item-item.is c.loop-item.invariant c.count_calls.ensures c.sum-count.ensures

pub count_each-returns : goal.count_each-returns
count_each-returns t c = counts_all c.args.items.now c.loop-item.item-index c.loop-item.count (omega arith) c.loop-item.invariant

pub count_calls-returns-in-Repeat : goal.count_calls-returns-in-Repeat
count_calls-returns-in-Repeat t c =
    repeat_counted c.in-Repeat.at c.in-Repeat.times c.in-Repeat.items c.count_each.result c.product.result
    (c.count_each.ensures ∙ ap (λ list. min (sum_by call_count list) ABOVE) c.items.ensures) c.product.ensures
    ∙ ap (λ (item : Item). min (call_count item) ABOVE) (sym c.in-Repeat.is)

pub count_calls-returns-in-Call : goal.count_calls-returns-in-Call
count_calls-returns-in-Call t c =
    one_call_counted c.in-Call.at c.in-Call.tries c.in-Call.name_at c.in-Call.name c.in-Call.args ∙ ap (λ (item : Item). min (call_count item) ABOVE) (sym c.in-Call.is)
