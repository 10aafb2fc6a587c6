use Rattle.std.proofs.Common.{List, ◌++◌, map, ◌∙◌, ap}
use Rattle.lang_tree.specs.declared.tree.BlockTree.{BlockTree}
use Rattle.lang_tree.specs.declared.tree.Decl.{Decl}
use Rattle.lang_tree.specs.declared.tree.InputTree.{InputTree}
use Rattle.lang_base.specs.Limits.{INPUTS, LOCALS, METHOD_BLOCKS}
use Rattle.lang_base.specs.declared.counted.Counted.TheVariants.{Blocks, Locals, Parameters}
use Rattle.lang_base.specs.declared.source_fault.SourceFault.{SourceFault}
use Rattle.lang_base.specs.SourceFaults.{least, order}
use Rattle.lang_rules.specs.Rules.{declared_at, declared_names, faults_in_literals, input_names, over, repeated}
use Rattle.lang_base.proofs.Least.{least_both}
use Rattle.lang_rules.proofs.methods.own_fault.Goals as goal

-- a method's own faults, by its lists
abbrev faults_in : List Decl → List InputTree → List Decl → List BlockTree → List SourceFault
faults_in declared inputs locals blocks =
    repeated (declared_names declared) (input_names inputs ++ declared_names locals)
    ++ over INPUTS Parameters (map (λ input. input.at) inputs)
    ++ over LOCALS Locals (map declared_at locals)
    ++ over METHOD_BLOCKS Blocks (map (λ block. block.at) blocks)
    ++ faults_in_literals locals

pub returns : goal.returns
returns c =
    let declared = c.args.decls.now in
    let method = c.args.method.now in
    let inputs = c.items-inputs.result.now in
    let locals = c.items-locals.result.now in
    let blocks = c.items.result.now in
    let names = repeated (declared_names declared) (input_names inputs ++ declared_names locals) in
    let taken = over INPUTS Parameters (map (λ input. input.at) inputs) in
    let kept = over LOCALS Locals (map declared_at locals) in
    let many = over METHOD_BLOCKS Blocks (map (λ (block : BlockTree). block.at) blocks) in
    let one = c.earlier_of-first.ensures ∙ least_both order _ _ names taken c.repeated_own.ensures c.over_inputs.ensures in
    let two = c.earlier_of-first-2.ensures ∙ least_both order _ _ (names ++ taken) kept one c.over_locals.ensures in
    let three = c.earlier_of-first-3.ensures ∙ least_both order _ _ (names ++ taken ++ kept) many two c.over_blocks.ensures in
    let all = c.earlier_of.ensures ∙ least_both order _ _ (names ++ taken ++ kept ++ many) (faults_in_literals locals) three c.large_literal.ensures in
    all
    ∙ ap (λ list. least (faults_in declared list locals blocks)) c.items-inputs.ensures
    ∙ ap (λ list. least (faults_in declared method.inputs list blocks)) c.items-locals.ensures
    ∙ ap (λ list. least (faults_in declared method.inputs method.locals list)) c.items.ensures
