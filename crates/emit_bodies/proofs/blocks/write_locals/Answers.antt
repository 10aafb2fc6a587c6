use Rattle.std.proofs.Common.{refl}
use Rattle.emit_bodies.specs.Blocks.{local_text}
use Rattle.base_io.proofs.Rows.{row_went, row_stopped}
use Rattle.emit_bodies.proofs.blocks.write_locals.Goals as goal

pub loop-local-preserved : goal.loop-local-preserved
loop-local-preserved g c =
    row_went (local_text c.args.method.now c.args.reach) c.args.locals.now c.loop-local.local-index c.local-item.result _ c.loop-local-test.true c.local-item.is refl c.loop-local.invariant c.in_ok-write_local.ensures

pub returns-in_err-write_local : goal.returns-in_err-write_local
returns-in_err-write_local g c =
    row_stopped (local_text c.args.method.now c.args.reach) c.args.locals.now c.loop-local.local-index c.local-item.result _ _ c.loop-local-test.true c.local-item.is refl c.from_residual.ensures.0 c.loop-local.invariant c.in_err-write_local.ensures
