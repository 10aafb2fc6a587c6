use Rattle.std.proofs.Common.{◌≡◌, ◌+◌, length, take, arith, ◌∙◌, ap, sym}
use Rattle.std.specs.List.{flat_map}
use Rattle.std.proofs.lemmas.Bool.Decides.{nat_tests}
use Rattle.lang_tree.specs.declared.tree.BlockTree.{BlockTree}
use Rattle.lang_base.specs.SourceFaults.{least, order}
use Rattle.lang_base.proofs.Least.{least_both}
use Rattle.lang_rules.specs.Rules.{early_faults, return_faults}
use Rattle.lang_rules.proofs.Findings.{early_blocks_are}
use Rattle.lang_rules.proofs.blocks.early_return_in.Goals as goal

pub returns-in-Some : goal.returns-in-Some
returns-in-Some c = λ scope.
    let blocks = c.args.blocks.now in
    let last = c.index-blocks-last.result in
    let whole : c.in-Some.last + 1 ≡ length blocks = grind (arith, nat_tests) in
    let ended = c.early_return.ensures scope ∙ ap (λ body. least (early_faults scope body)) c.items.ensures ∙ ap (λ (block : BlockTree). least (early_faults scope block.body)) (sym c.index-blocks-last.is) in
    let front = flat_map (λ block. return_faults scope block.body) (take c.in-Some.last blocks) in
    c.earlier_of.ensures ∙ least_both order _ _ front (early_faults scope last.body) (c.any_return_in.ensures scope) ended
    ∙ ap least (early_blocks_are scope blocks c.in-Some.last last whole c.index-blocks-last.is)
