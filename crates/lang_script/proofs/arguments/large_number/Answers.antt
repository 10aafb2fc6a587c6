use Rattle.lang_base.specs.SourceFaults.{order}
use Rattle.lang_script.specs.Faults.{number_faults}
use Rattle.lang_script.proofs.Counts.{argument_turn}
use Rattle.lang_base.proofs.Least.{least_all}
use Rattle.lang_script.proofs.arguments.large_number.Goals as goal

pub loop-argument-preserved : goal.loop-argument-preserved
loop-argument-preserved c =
    argument_turn c.args.arguments.now c.loop-argument.argument-index _ _ _ _ c.loop-argument-test.true c.loop-argument.invariant c.number_fault.ensures c.earlier_of-fault.ensures

pub returns : goal.returns
returns c = least_all order number_faults c.args.arguments.now c.loop-argument.argument-index _ c.loop-argument-test.false c.loop-argument.invariant
