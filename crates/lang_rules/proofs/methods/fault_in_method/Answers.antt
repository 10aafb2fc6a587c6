use Rattle.std.proofs.Common.{◌++◌, ◌∙◌, ap}
use Rattle.lang_base.specs.SourceFaults.{least, order}
use Rattle.lang_forms.specs.Scope.{scope_of}
use Rattle.lang_rules.specs.Rules.{early_in_blocks, faults_in_blocks, own_faults}
use Rattle.lang_base.proofs.Least.{least_both}
use Rattle.lang_rules.proofs.methods.fault_in_method.Goals as goal

pub returns : goal.returns
returns c =
    let declared = c.args.decls.now in
    let method = c.args.method.now in
    let scope = scope_of declared method in
    let blocks = c.items-blocks.result.now in
    let names = c.items.ensures ∙ c.in_ok-scope.ensures in
    let inner = c.in_ok-inner.ensures ∙ ap (λ entries. least (faults_in_blocks entries blocks)) names ∙ ap (λ list. least (faults_in_blocks scope list)) c.items-blocks.ensures in
    let early = c.early_return_in.ensures scope ∙ ap (λ list. least (early_in_blocks scope list)) c.items-blocks.ensures in
    let own = own_faults declared method in
    let one = c.earlier_of-first.ensures ∙ least_both order _ _ own (faults_in_blocks scope method.blocks) c.own_fault.ensures inner in
    c.earlier_of.ensures ∙ least_both order _ _ (own ++ faults_in_blocks scope method.blocks) (early_in_blocks scope method.blocks) one early
