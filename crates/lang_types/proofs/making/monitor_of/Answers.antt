use Rattle.lang_rules.specs.Rules.{literal_faults, method_faults}
use Rattle.lang_types.proofs.FineTrees.{fine_tree, none_each}
use Rattle.lang_types.proofs.MonitorMade.{few_declared, few_fields, made_is_monitor, small_parts}
use Rattle.lang_types.proofs.making.monitor_of.Goals as goal

pub fields_of-requires-clause-few : goal.fields_of-requires-clause-few
fields_of-requires-clause-few c = rw c.items-decls.ensures (few_declared c.args.tree.now c.requires.fine)

pub fields_of-requires-clause-small : goal.fields_of-requires-clause-small
fields_of-requires-clause-small c = rw c.items-decls.ensures (none_each literal_faults c.args.tree.now.decls (fine_tree c.args.tree.now c.requires.fine).literals)

pub methods_of-requires-clause-few : goal.methods_of-requires-clause-few
methods_of-requires-clause-few c = rw c.items-trees.ensures (fine_tree c.args.tree.now c.requires.fine).methods

pub methods_of-requires-clause-small : goal.methods_of-requires-clause-small
methods_of-requires-clause-small c = rw c.items-trees.ensures (small_parts c.args.tree.now c.requires.fine)

pub blocks_of-requires-clause-fields : goal.blocks_of-requires-clause-fields
blocks_of-requires-clause-fields c = rw c.items-decls.ensures (few_fields c.args.tree.now c.requires.fine)

pub blocks_of-requires-clause-decls : goal.blocks_of-requires-clause-decls
blocks_of-requires-clause-decls c = rw c.items-decls.ensures (few_declared c.args.tree.now c.requires.fine)

pub blocks_of-requires-clause-few : goal.blocks_of-requires-clause-few
blocks_of-requires-clause-few c = rw c.items-trees.ensures (fine_tree c.args.tree.now c.requires.fine).methods

pub blocks_of-requires-clause-fine : goal.blocks_of-requires-clause-fine
blocks_of-requires-clause-fine c = rw (c.items-decls.ensures, c.items-trees.ensures) (none_each (method_faults c.args.tree.now.decls) c.args.tree.now.methods (fine_tree c.args.tree.now c.requires.fine).each)

pub of-requires : goal.of-requires
of-requires c =
    made_is_monitor c.args.tree.now c.items-decls.result.now c.items-trees.result.now c.in_ok-name.name c.in_ok-fields.fields.items c.in_ok-methods.methods.items c.in_ok-blocks.blocks.items c.blocks_of.new.known.items
    c.requires.fine c.requires.names c.requires.blocks c.items-decls.ensures c.items-trees.ensures c.in_ok-name.ensures.cases c.in_ok-fields.ensures c.in_ok-methods.ensures c.in_ok-blocks.ensures.blocks c.in_ok-blocks.ensures.conditions
