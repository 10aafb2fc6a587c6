use Rattle.std.proofs.Common.{refl}
use Rattle.base_io.proofs.Rows.{row_stopped, row_went}
use Rattle.emit_choices.specs.Openings.{parameter_docs}
use Rattle.emit_choices.proofs.openings.write_docs.Goals as goal

pub loop-one-preserved : goal.loop-one-preserved
loop-one-preserved g c =
    row_went (parameter_docs c.args.text.now) c.args.declared.now c.loop-one.one-index c.one-item.result _ c.loop-one-test.true c.one-item.is refl c.loop-one.invariant c.in_ok-write_parameter_docs.ensures

pub returns-in_err-write_parameter_docs : goal.returns-in_err-write_parameter_docs
returns-in_err-write_parameter_docs g c =
    row_stopped (parameter_docs c.args.text.now) c.args.declared.now c.loop-one.one-index c.one-item.result _ _ c.loop-one-test.true c.one-item.is refl c.from_residual.ensures.0 c.loop-one.invariant c.in_err-write_parameter_docs.ensures
