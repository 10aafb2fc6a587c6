use Rattle.std.proofs.Common.{arith, rules, ◌∙◌, ap, take}
use Rattle.std.proofs.lemmas.Result.{err_from_is_err_and}
use Rattle.lang_script.specs.Faults.{items_in}
use Rattle.lang_script.specs.inner.Counting.{counted}
use Rattle.lang_script.proofs.OverCalls.{counted_within, last_client, next_client, stop_client}
use Rattle.lang_script.proofs.counting.calls_of_clients.Goals as goal

pub loop-client-preserved : goal.loop-client-preserved
loop-client-preserved c =
    let here = c.in_ok-count.ensures ∙ ap (counted c.loop-client.count) c.items.ensures in
    next_client c.args.clients.now c.loop-client.client-index c.client-item.result (search rules) c.client-item.is c.loop-client.count c.in_ok-count.count c.loop-client.invariant here

pub returns-in_err-count : goal.returns-in_err-count
returns-in_err-count c =
    let p = err_from_is_err_and c.from_residual.result c.from_residual.ensures.1 in
    let here = c.in_err-count.ensures ∙ ap (counted c.loop-client.count) c.items.ensures in
    rw (p.1, p.2) (stop_client c.args.clients.now c.loop-client.client-index c.client-item.result (search rules) c.client-item.is c.loop-client.count _ c.loop-client.invariant here)

pub returns : goal.returns
returns c = last_client c.args.clients.now c.loop-client.client-index c.loop-client.count (omega arith) c.loop-client.invariant

pub calls_of_items-requires : goal.calls_of_items-requires
calls_of_items-requires c = counted_within 0 (items_in (take c.loop-client.client-index c.args.clients.now)) c.loop-client.count (omega arith) c.loop-client.invariant
