use Rattle.std.proofs.Common.{refl}
use Rattle.lang_printer.specs.Canonical.{method_text}
use Rattle.base_io.proofs.Rows.{row_went, row_stopped}
use Rattle.lang_printer.proofs.printer.write_methods.Goals as goal

pub loop-method-preserved : goal.loop-method-preserved
loop-method-preserved g c =
    row_went method_text c.args.methods.now c.loop-method.method-index c.method-item.result _ c.loop-method-test.true c.method-item.is refl c.loop-method.invariant c.in_ok-write_method.ensures

pub returns-in_err-write_method : goal.returns-in_err-write_method
returns-in_err-write_method g c =
    row_stopped method_text c.args.methods.now c.loop-method.method-index c.method-item.result _ _ c.loop-method-test.true c.method-item.is refl c.from_residual.ensures.0 c.loop-method.invariant c.in_err-write_method.ensures
