use Rattle.std.proofs.Common.{◌++◌, Some, ◌∙◌, ap}
use Rattle.lang_base.specs.Limits.{STATEMENTS}
use Rattle.lang_base.specs.declared.counted.Counted.TheVariants.{Statements}
use Rattle.lang_base.specs.declared.kind.Kind.TheVariants as kinds
use Rattle.lang_base.specs.SourceFaults.{least, order}
use Rattle.lang_forms.specs.Sense.{sense}
use Rattle.lang_rules.specs.Rules.{expected, faults_in_each, over, places_in}
use Rattle.lang_base.proofs.Least.{least_both}
use Rattle.lang_rules.proofs.blocks.fault_in_block.Goals as goal

pub returns : goal.returns
returns c =
    let scope = c.args.scope.now in
    let block = c.args.block.now in
    let inner = c.in_ok-inner.ensures ∙ ap (λ body. least (faults_in_each scope body)) c.items-body.ensures in
    let many = c.over_statements.ensures ∙ ap (λ body. least (over STATEMENTS Statements (places_in body))) c.items-body.ensures in
    let guard = expected (Some kinds.Bool) (sense scope block.guard) in
    let each = faults_in_each scope block.body in
    let both = c.earlier_of.ensures ∙ least_both order _ _ guard each c.in_ok-guard.ensures inner in
    c.earlier_of-2.ensures ∙ least_both order _ _ (guard ++ each) (over STATEMENTS Statements (places_in block.body)) both many
