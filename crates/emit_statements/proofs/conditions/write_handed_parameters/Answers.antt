use Rattle.std.proofs.Common.{refl}
use Rattle.base_io.proofs.Writing.{wrote_same}
use Rattle.emit_comments.proofs.Numbered.{numbered_done, numbered_stopped, numbered_went}
use Rattle.emit_statements.specs.Conditions.{handed_parameter}
use Rattle.emit_statements.proofs.conditions.write_handed_parameters.Goals as goal

pub loop-before-preserved : goal.loop-before-preserved
loop-before-preserved g c =
    numbered_went (handed_parameter c.args.method.now) c.args.inputs.now c.loop-before.before c.index-inputs-before.result _ c.loop-before-test.true c.index-inputs-before.is refl c.loop-before.invariant c.in_ok-write_handed_parameter.ensures

pub returns-in_err-write_handed_parameter : goal.returns-in_err-write_handed_parameter
returns-in_err-write_handed_parameter g c =
    numbered_stopped (handed_parameter c.args.method.now) c.args.inputs.now c.loop-before.before c.index-inputs-before.result _ _ c.loop-before-test.true c.index-inputs-before.is refl c.from_residual.ensures.0 c.loop-before.invariant c.in_err-write_handed_parameter.ensures

pub returns : goal.returns
returns g c =
    wrote_same _ (numbered_done (handed_parameter c.args.method.now) c.args.inputs.now c.loop-before.before c.loop-before-test.false) c.loop-before.invariant
