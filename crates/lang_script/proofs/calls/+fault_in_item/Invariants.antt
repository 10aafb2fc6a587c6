use Rattle.std.proofs.Common.{◌≡◌, take}
use Rattle.std.specs.List.{flat_map}
use Rattle.lang_base.specs.SourceFaults.{least}
use Rattle.lang_script.specs.Faults.{item_faults}
use Rattle.lang_script.proofs.calls.+fault_in_item.Given as goal

abbrev pub invariant-fault_in_items-loop-item : goal.invariant-fault_in_items-loop-item
invariant-fault_in_items-loop-item l = l.fault ≡ least (flat_map (item_faults l.monitor) (take l.item-index l.items))
