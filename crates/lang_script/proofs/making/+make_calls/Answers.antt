use Rattle.std.proofs.Common.{◌≡◌, rules, ap, sym, subst, ◌∙◌, replicate}
use Rattle.std.specs.List.{flat_map}
use Rattle.std.specs.Prelude.{IfOk}
use Rattle.lang_tree.specs.declared.tree.Item.TheViews.{the_lemmas}
use Rattle.lang_script.specs.Scripts.{calls_of_item, joined}
use Rattle.lang_script.proofs.Accepted.{small_arguments, small_inner}
use Rattle.lang_script.proofs.Counts.{flat_map_all, flat_map_turn}
use Rattle.lang_script.proofs.Items.{calls-Repeat}
use Rattle.lang_script.proofs.making.+make_calls.Goals as goal

pub calls_of_item-one_call-requires : goal.calls_of_item-one_call-requires
calls_of_item-one_call-requires t c = small_arguments c.args.item.now c.in-Call.at c.in-Call.tries c.in-Call.name_at c.in-Call.name c.in-Call.args c.items.result.now c.in-Call.is c.items.ensures c.requires

pub calls_of_item-make_calls-requires : goal.calls_of_item-make_calls-requires
calls_of_item-make_calls-requires t c =
    (search (rules, the_lemmas), small_inner c.args.item.now c.in-Repeat.at c.in-Repeat.times c.in-Repeat.items c.items-in-Repeat.result.now c.in-Repeat.is c.items-in-Repeat.ensures c.requires)

pub calls_of_item-returns-in_ok-make_calls-in-Repeat :
    goal.calls_of_item-returns-in_ok-make_calls-in-Repeat
calls_of_item-returns-in_ok-make_calls-in-Repeat t c =
    let monitor = c.args.monitor.now in
    let inner = c.in_ok-make_calls-in-Repeat.ensures ∙ ap (flat_map (calls_of_item monitor)) c.items-in-Repeat.ensures in
    let all = ap (λ calls. joined (replicate c.in-Repeat.times calls)) inner ∙ sym (calls-Repeat monitor c.in-Repeat.at c.in-Repeat.times c.in-Repeat.items) ∙ ap (calls_of_item monitor) (sym c.in-Repeat.is) in
    subst (λ calls. IfOk c.copies.result (λ made. made.items ≡ calls)) all c.copies.ensures

pub make_calls-loop-item-preserved : goal.make_calls-loop-item-preserved
make_calls-loop-item-preserved t c =
    flat_map_turn (calls_of_item c.args.monitor.now) c.args.items.now c.loop-item.item-index c.item-item.result _ _ _ c.loop-item-test.true c.item-item.is c.loop-item.invariant c.in_ok-calls.ensures c.in_ok-append.ensures.items

pub make_calls-returns : goal.make_calls-returns
make_calls-returns t c = flat_map_all (calls_of_item c.args.monitor.now) c.args.items.now c.loop-item.item-index _ c.loop-item-test.false c.loop-item.invariant
