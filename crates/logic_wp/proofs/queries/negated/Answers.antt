use Rattle.std.proofs.Common.{◌≡◌, List, Some, None, arith, ap, refl, subst, ◌∙◌}
use Rattle.logic_linear.specs.declared.formula.Formula.{Formula}
use Rattle.logic_wp.specs.NegatedQueries.{query_of_parts}
use Rattle.logic_wp.specs.Paths.{block_paths, body_paths}
use Rattle.logic_wp.specs.inner.Backward.{AreMade, ArePartsOf}
use Rattle.logic_wp.proofs.BlockPaths.{block_negates, few, many, no_parts, no_paths, parts_there, paths_made, too_large, within}
use Rattle.logic_wp.proofs.queries.negated.Goals as goal

pub returns-then-paths-gt-MOST_PATHS-clause-negated :
    goal.returns-then-paths-gt-MOST_PATHS-clause-negated
returns-then-paths-gt-MOST_PATHS-clause-negated c =
    no_paths c.args.monitor.now c.args.query.now None (many c.args.monitor.now c.args.query.now.block c.paths.result c.paths.ensures (omega arith)) refl

pub parts_of_body-requires-clause-body : goal.parts_of_body-requires-clause-body
parts_of_body-requires-clause-body c =
    block_negates c.args.monitor.now c.args.query.now.block c.blocks-2.result.now c.index-blocks-query.result c.items-body.result.now c.blocks-2.ensures.rule c.blocks-2.ensures.blocks
    c.requires.block c.items-body.ensures

pub returns-in_default-clause-negated : goal.returns-in_default-clause-negated
returns-in_default-clause-negated c =
    let monitor = c.args.monitor.now in
    let query = c.args.query.now in
    let paths = body_paths c.items-body.result.now in
    let are : paths ≡ block_paths monitor query.block =
    paths_made monitor query.block c.blocks-2.result.now c.index-blocks-query.result c.items-body.result.now paths c.blocks-2.ensures.blocks c.requires.block c.items-body.ensures refl in
    no_parts monitor query paths are (subst (AreMade query.post paths) c.in_default.is c.in_ok-parts.ensures)

pub returns-then-has_few_nodes-clause-negated : goal.returns-then-has_few_nodes-clause-negated
returns-then-has_few_nodes-clause-negated c =
    let monitor = c.args.monitor.now in
    let query = c.args.query.now in
    let parts = c.in-Some.parts in
    let paths = body_paths c.items-body.result.now in
    let are : paths ≡ block_paths monitor query.block =
    paths_made monitor query.block c.blocks-2.result.now c.index-blocks-query.result c.items-body.result.now paths c.blocks-2.ensures.blocks c.requires.block c.items-body.ensures refl in
    let made : ArePartsOf query.post paths parts = subst (AreMade query.post paths) c.in-Some.is c.in_ok-parts.ensures in
    within monitor query (Some paths) paths (Some parts) parts c.in_ok-whole.whole c.has_few_nodes.result
    (few monitor query.block c.paths.result paths c.paths.ensures (omega arith) are) refl (parts_there query.post paths parts made) refl
    (c.in_ok-whole.ensures ∙ ap (λ (hyps : List Formula). query_of_parts hyps parts) c.items.ensures) c.has_few_nodes.ensures c.if-has_few_nodes.true

pub returns-else-has_few_nodes-clause-negated : goal.returns-else-has_few_nodes-clause-negated
returns-else-has_few_nodes-clause-negated c =
    let monitor = c.args.monitor.now in
    let query = c.args.query.now in
    let parts = c.in-Some.parts in
    let paths = body_paths c.items-body.result.now in
    let are : paths ≡ block_paths monitor query.block =
    paths_made monitor query.block c.blocks-2.result.now c.index-blocks-query.result c.items-body.result.now paths c.blocks-2.ensures.blocks c.requires.block c.items-body.ensures refl in
    let made : ArePartsOf query.post paths parts = subst (AreMade query.post paths) c.in-Some.is c.in_ok-parts.ensures in
    too_large monitor query (Some paths) paths (Some parts) parts c.in_ok-whole.whole c.has_few_nodes.result
    (few monitor query.block c.paths.result paths c.paths.ensures (omega arith) are) refl (parts_there query.post paths parts made) refl
    (c.in_ok-whole.ensures ∙ ap (λ (hyps : List Formula). query_of_parts hyps parts) c.items.ensures) c.has_few_nodes.ensures c.if-has_few_nodes.false
