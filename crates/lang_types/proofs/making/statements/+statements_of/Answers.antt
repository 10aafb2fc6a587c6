use Rattle.std.proofs.Common.{rules, ap, ◌∙◌}
use Rattle.std.specs.List.{flat_map}
use Rattle.lang_tree.specs.declared.tree.StmtTree.TheViews.{the_lemmas}
use Rattle.lang_types.specs.Typed.{statement_of}
use Rattle.lang_types.proofs.StatementSteps.{fine_items, if_fine, if_made, set_fine}
use Rattle.lang_types.proofs.making.statements.+statements_of.Goals as goal

pub push_statement-push_set-requires-clause-fine : goal.push_statement-push_set-requires-clause-fine
push_statement-push_set-requires-clause-fine t c = rw c.bytes.ensures (set_fine c.args.scope.now c.args.tree.now _ c.in-Set.name c.in-Set.value c.in-Set.is c.requires.fine)

pub push_statement-statements_of-requires : goal.push_statement-statements_of-requires
push_statement-statements_of-requires t c =
    (search (rules, the_lemmas), (c.requires.ordered, (c.requires.numbers, fine_items c.args.scope.now c.items.result.now _ c.items.ensures (if_fine c.args.scope.now c.args.tree.now _ _ _ _ c.in-If.is c.requires.fine).body_fine)))

pub push_statement-statements_of-requires-in-If : goal.push_statement-statements_of-requires-in-If
push_statement-statements_of-requires-in-If t c =
    (search (rules, the_lemmas), (c.requires.ordered, (c.requires.numbers, fine_items c.args.scope.now c.items-in-If.result.now _ c.items-in-If.ensures (if_fine c.args.scope.now c.args.tree.now _ _ _ _ c.in-If.is c.requires.fine).other_fine)))

pub push_statement-returns-in_ok-push-in-If : goal.push_statement-returns-in_ok-push-in-If
push_statement-returns-in_ok-push-in-If t c =
    let scope = c.args.scope.now in
    if_made scope c.args.tree.now _ _ _ _ c.args.to.now.items c.push.new.self.items c.in_ok-when-in-If.when c.of.result c.of-in-If.result c.in-If.is c.in_ok-when-in-If.ensures
    (c.of.ensures ∙ c.in_ok-body-in-If.ensures ∙ ap (flat_map (statement_of scope)) c.items.ensures)
    (c.of-in-If.ensures ∙ c.in_ok-other-in-If.ensures ∙ ap (flat_map (statement_of scope)) c.items-in-If.ensures)
    (search rules)
