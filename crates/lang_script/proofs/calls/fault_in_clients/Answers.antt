use Rattle.std.proofs.Common.{arith, rules, ap, sym, ◌∙◌}
use Rattle.std.specs.List.{flat_map}
use Rattle.lang_tree.specs.declared.tree.ClientTree.{ClientTree}
use Rattle.lang_base.specs.SourceFaults.{least, order}
use Rattle.lang_script.specs.Faults.{item_faults}
use Rattle.lang_script.proofs.Items.{flat_map-flat_map}
use Rattle.lang_base.proofs.Least.{least_all, least_turn}
use Rattle.lang_script.proofs.calls.fault_in_clients.Goals as goal

pub loop-client-preserved : goal.loop-client-preserved
loop-client-preserved c =
    let here = c.fault_in_items.ensures ∙ ap (λ items. least (flat_map (item_faults c.args.monitor.now) items)) c.items.ensures in
    least_turn order (λ (client : ClientTree). flat_map (item_faults c.args.monitor.now) client.items) c.args.clients.now c.loop-client.client-index c.client-item.result _ _ _ (search rules) c.client-item.is c.loop-client.invariant here c.earlier_of-fault.ensures

pub returns : goal.returns
returns c =
    least_all order (λ (client : ClientTree). flat_map (item_faults c.args.monitor.now) client.items) c.args.clients.now c.loop-client.client-index _ (omega arith) c.loop-client.invariant
    ∙ ap least (sym (flat_map-flat_map (item_faults c.args.monitor.now) (λ (client : ClientTree). client.items) c.args.clients.now))
