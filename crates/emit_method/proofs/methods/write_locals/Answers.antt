use Rattle.std.proofs.Common.{refl}
use Rattle.base_io.proofs.Rows.{row_stopped, row_went}
use Rattle.emit_method.specs.Methods.{local_line}
use Rattle.emit_method.proofs.methods.write_locals.Goals as goal

pub loop-local-preserved : goal.loop-local-preserved
loop-local-preserved g c =
    row_went (local_line c.args.method.now) c.args.locals.now c.loop-local.local-index c.local-item.result _ c.loop-local-test.true c.local-item.is refl c.loop-local.invariant c.in_ok-write_local.ensures

pub returns-in_err-write_local : goal.returns-in_err-write_local
returns-in_err-write_local g c =
    row_stopped (local_line c.args.method.now) c.args.locals.now c.loop-local.local-index c.local-item.result _ _ c.loop-local-test.true c.local-item.is refl c.from_residual.ensures.0 c.loop-local.invariant c.in_err-write_local.ensures
