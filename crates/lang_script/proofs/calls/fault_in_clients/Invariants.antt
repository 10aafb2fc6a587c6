use Rattle.std.proofs.Common.{◌≡◌, take}
use Rattle.std.specs.List.{flat_map}
use Rattle.lang_base.specs.SourceFaults.{least}
use Rattle.lang_script.specs.Faults.{item_faults}
use Rattle.lang_script.proofs.calls.fault_in_clients.Given as goal

abbrev pub invariant-loop-client : goal.invariant-loop-client
invariant-loop-client l = l.fault ≡ least (flat_map (λ client. flat_map (item_faults l.monitor) client.items) (take l.client-index l.clients))
