use Rattle.std.proofs.Common.{refl}
use Rattle.emit_bodies.specs.Blocks.{parameter_text}
use Rattle.base_io.proofs.Rows.{row_went, row_stopped}
use Rattle.emit_bodies.proofs.blocks.write_parameters.Goals as goal

pub loop-input-preserved : goal.loop-input-preserved
loop-input-preserved g c =
    row_went (parameter_text c.args.method.now) c.args.inputs.now c.loop-input.input-index c.input-item.result _ c.loop-input-test.true c.input-item.is refl c.loop-input.invariant c.in_ok-write_parameter.ensures

pub returns-in_err-write_parameter : goal.returns-in_err-write_parameter
returns-in_err-write_parameter g c =
    row_stopped (parameter_text c.args.method.now) c.args.inputs.now c.loop-input.input-index c.input-item.result _ _ c.loop-input-test.true c.input-item.is refl c.from_residual.ensures.0 c.loop-input.invariant c.in_err-write_parameter.ensures
