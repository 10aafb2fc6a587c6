use Rattle.std.proofs.Common.{arith, rules, ◌∙◌, ap}
use Rattle.lang_base.specs.SourceFaults.{least, order}
use Rattle.lang_rules.specs.Rules.{return_faults}
use Rattle.lang_base.proofs.Least.{least_all, least_turn}
use Rattle.lang_rules.proofs.blocks.any_return_in.Goals as goal

pub loop-block-preserved : goal.loop-block-preserved
loop-block-preserved c = λ scope.
    let here = c.any_return.ensures scope ∙ ap (λ body. least (return_faults scope body)) c.items.ensures in
    least_turn order (λ block. return_faults scope block.body) c.args.blocks.now c.loop-block.block-index c.block-item.result _ _ _ (search rules) c.block-item.is (c.loop-block.invariant scope) here c.earlier_of-fault.ensures

pub returns : goal.returns
returns c = λ scope. least_all order (λ block. return_faults scope block.body) c.args.blocks.now c.loop-block.block-index _ (omega arith) (c.loop-block.invariant scope)
