use Rattle.std.proofs.Common.{◌<◌, arith, length, sym, ap, ◌∙◌}
use Rattle.std.proofs.lemmas.Grind.{common_steps}
use Rattle.lang_tree.specs.declared.tree.StmtTree.{out-StmtTree}
use Rattle.lang_types.specs.Typed.{result_layer}
use Rattle.lang_types.proofs.StatementSteps.{last_is, result_made}
use Rattle.lang_types.proofs.making.statements.result_of.Goals as goal

pub returns : goal.returns
returns c =
    let scope = c.args.scope.now in
    let body = c.args.body.now in
    let some : 0 < length body = grind (arith, common_steps) in
    result_made c.last_result.result _ _ c.last_result.ensures
    (ap (λ last. result_layer scope (out-StmtTree last)) c.index-body-last.is ∙ sym (last_is scope body c.index-body-last.result some))
