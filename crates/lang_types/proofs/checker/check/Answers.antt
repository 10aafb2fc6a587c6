use Rattle.lang_types.proofs.Small.{parsed_has_blocks, parsed_is_small}
use Rattle.lang_types.proofs.Causes.{found_is_least, none_is_unbroken}
use Rattle.lang_types.proofs.checker.check.Goals as goal

pub fault_in_monitor-requires : goal.fault_in_monitor-requires
fault_in_monitor-requires c = record { few = parsed_is_small c.args.tree.now c.requires }

pub monitor_of-requires : goal.monitor_of-requires
monitor_of-requires c = record { names = c.names_are_identifiers.ensures.monitors c.requires.bytes c.requires.tokens c.args.tree.now c.requires.spelled c.requires.derived; fine = none_is_unbroken c.args.tree.now c.in_ok-fault.field-0 c.in_ok-fault.ensures c.in-None.is; blocks = parsed_has_blocks c.args.tree.now c.requires }

pub returns-in-Some-clause-fault : goal.returns-in-Some-clause-fault
returns-in-Some-clause-fault c = found_is_least c.args.tree.now c.in_ok-fault.field-0 c.in-Some.fault c.in_ok-fault.ensures c.in-Some.is

pub returns-in_ok-monitor_of-in-None-clause-unbroken : goal.returns-in_ok-monitor_of-in-None-clause-unbroken
returns-in_ok-monitor_of-in-None-clause-unbroken c = none_is_unbroken c.args.tree.now c.in_ok-fault.field-0 c.in_ok-fault.ensures c.in-None.is
