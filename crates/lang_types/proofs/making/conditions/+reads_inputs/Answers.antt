use Rattle.lang_monitor.specs.Inputs.{reads_inputs}
use Rattle.lang_types.proofs.BlockSteps.{any_here}
use Rattle.lang_types.proofs.making.conditions.+reads_inputs.Goals as goal

pub any_reads_inputs-returns-then-reads_inputs : goal.any_reads_inputs-returns-then-reads_inputs
any_reads_inputs-returns-then-reads_inputs t c = any_here reads_inputs c.args.parts.now c.loop-part.part-index c.part-item.result c.part-item.is c.loop-part-test.true c.if-reads_inputs.ensures
