use Rattle.std.proofs.Common.{arith, rules, ap, sym, ◌∙◌}
use Rattle.std.specs.List.{flat_map}
use Rattle.std.proofs.lemmas.List.{append-nil}
use Rattle.lang_tree.specs.declared.tree.Item.{Item}
use Rattle.lang_base.specs.SourceFaults.{least, order}
use Rattle.lang_script.specs.Faults.{call_faults, item_faults}
use Rattle.lang_script.proofs.Items.{faults-Call, faults-Repeat}
use Rattle.lang_base.proofs.Least.{least_all, least_turn}
use Rattle.lang_script.proofs.calls.+fault_in_item.Goals as goal

pub fault_in_items-loop-item-preserved : goal.fault_in_items-loop-item-preserved
fault_in_items-loop-item-preserved t c =
    least_turn order (item_faults c.args.monitor.now) c.args.items.now c.loop-item.item-index c.item-item.result _ _ _ (search rules) c.item-item.is c.loop-item.invariant c.fault_in_item.ensures c.earlier_of-fault.ensures

pub fault_in_items-returns : goal.fault_in_items-returns
fault_in_items-returns t c = least_all order (item_faults c.args.monitor.now) c.args.items.now c.loop-item.item-index _ (omega arith) c.loop-item.invariant

pub fault_in_item-returns-in-Repeat : goal.fault_in_item-returns-in-Repeat
fault_in_item-returns-in-Repeat t c =
    c.fault_in_items.ensures ∙ ap (λ list. least (flat_map (item_faults c.args.monitor.now) list)) c.items-in-Repeat.ensures
    ∙ ap least (sym (faults-Repeat c.args.monitor.now c.in-Repeat.at c.in-Repeat.times c.in-Repeat.items))
    ∙ ap (λ (item : Item). least (item_faults c.args.monitor.now item)) (sym c.in-Repeat.is)

pub fault_in_item-returns-in-Call : goal.fault_in_item-returns-in-Call
fault_in_item-returns-in-Call t c =
    c.fault_in_call.ensures ∙ ap (λ list. least (call_faults c.args.monitor.now (record { name_at = c.in-Call.name_at; name = c.in-Call.name; arguments = list }))) c.items.ensures
    ∙ ap least (sym (faults-Call c.args.monitor.now c.in-Call.at c.in-Call.tries c.in-Call.name_at c.in-Call.name c.in-Call.args ∙ append-nil (call_faults c.args.monitor.now (record { name_at = c.in-Call.name_at; name = c.in-Call.name; arguments = c.in-Call.args }))))
    ∙ ap (λ (item : Item). least (item_faults c.args.monitor.now item)) (sym c.in-Call.is)
