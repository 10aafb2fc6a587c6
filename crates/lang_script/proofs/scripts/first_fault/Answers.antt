use Rattle.std.proofs.Common.{List, [], ◌++◌, ◌∙◌, ap}
use Rattle.std.specs.List.{flat_map}
use Rattle.lang_tree.specs.declared.tree.ClientTree.{ClientTree}
use Rattle.lang_monitor.specs.MonitorParts.{MonitorParts}
use Rattle.lang_base.specs.declared.source_fault.SourceFault.{SourceFault}
use Rattle.lang_base.specs.SourceFaults.{least, order}
use Rattle.lang_script.specs.Faults.{doubled, item_faults, items_in, over_calls, over_clients}
use Rattle.lang_base.proofs.Least.{least_both}
use Rattle.lang_script.proofs.scripts.first_fault.Goals as goal

abbrev faults_in : MonitorParts → List ClientTree → List SourceFault
faults_in monitor clients = flat_map (item_faults monitor) (items_in clients) ++ doubled [] clients ++ over_clients clients ++ over_calls 0 (items_in clients)

pub returns : goal.returns
returns c =
    let clients = c.items-clients.result.now in
    let monitor = c.args.monitor.now in
    let calls = flat_map (item_faults monitor) (items_in clients) in
    let names = doubled [] clients in
    let many = over_clients clients in
    let one = c.earlier_of-first.ensures ∙ least_both order _ _ calls names c.fault_in_clients.ensures c.doubled_client.ensures in
    let two = c.earlier_of-first-2.ensures ∙ least_both order _ _ (calls ++ names) many one c.over_clients.ensures in
    let all = c.earlier_of.ensures ∙ least_both order _ _ (calls ++ names ++ many) (over_calls 0 (items_in clients)) two c.over_calls.ensures in
    all ∙ ap (λ trees. least (faults_in monitor trees)) c.items-clients.ensures
