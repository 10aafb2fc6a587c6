use Rattle.lang_script.proofs.Counts.{pair_turn, pairs_all}
use Rattle.lang_script.proofs.arguments.wrong_type.Goals as goal

pub loop-i-preserved : goal.loop-i-preserved
loop-i-preserved c = pair_turn c.args.inputs.now c.args.arguments.now c.loop-i.i _ _ _ _ _ c.requires c.loop-i-test.true c.loop-i.invariant c.type_fault.ensures c.earlier_of-fault.ensures

pub returns : goal.returns
returns c = pairs_all c.args.inputs.now c.args.arguments.now c.loop-i.i _ c.requires c.loop-i-test.false c.loop-i.invariant
