use Rattle.std.proofs.Common.{refl}
use Rattle.base_io.proofs.Rows.{row_stopped, row_went}
use Rattle.emit_module.specs.Modules.{field_line}
use Rattle.emit_module.proofs.fields.write_fields.Goals as goal

pub loop-one-preserved : goal.loop-one-preserved
loop-one-preserved g c =
    row_went (field_line c.args.tree.now) c.args.declared.now c.loop-one.one-index c.one-item.result _ c.loop-one-test.true c.one-item.is refl c.loop-one.invariant c.in_ok-write_line.ensures

pub returns-in_err-write_line : goal.returns-in_err-write_line
returns-in_err-write_line g c =
    row_stopped (field_line c.args.tree.now) c.args.declared.now c.loop-one.one-index c.one-item.result _ _ c.loop-one-test.true c.one-item.is refl c.from_residual.ensures.0 c.loop-one.invariant c.in_err-write_line.ensures
