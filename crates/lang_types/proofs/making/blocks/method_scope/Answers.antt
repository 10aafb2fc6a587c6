use Rattle.lang_types.proofs.BlockSteps.{few_names, scope_made}
use Rattle.lang_types.proofs.making.blocks.method_scope.Goals as goal

pub scope_of-requires-clause-inputs : goal.scope_of-requires-clause-inputs
scope_of-requires-clause-inputs c = (few_names c.args.decls.now c.args.tree.now c.requires.fine).0

pub scope_of-requires-clause-locals : goal.scope_of-requires-clause-locals
scope_of-requires-clause-locals c = (few_names c.args.decls.now c.args.tree.now c.requires.fine).1

pub returns : goal.returns
returns c =
    let made = scope_made c.args.decls.now c.args.tree.now c.scope_of.result c.requires.fields c.requires.fine c.scope_of.ensures in
    record { exact = made.exact; fine = made.fine }
