use Rattle.std.proofs.Common.{arith, append_assoc}
use Rattle.lang_forms.proofs.ScopeMade.{inputs_more}
use Rattle.lang_forms.proofs.scope.push_inputs.Goals as goal

pub loop-index-preserved : goal.loop-index-preserved
loop-index-preserved c =
    let more = inputs_more 16 c.args.inputs.now c.loop-index.index c.index-inputs-index.result (omega arith) c.index-inputs-index.is in
    grind (arith, more, append_assoc)
