use Rattle.std.proofs.Common.{refl}
use Rattle.emit_expressions.specs.Values.{plain_addend}
use Rattle.base_io.proofs.Rows.{row_stopped, row_went}
use Rattle.emit_expressions.specs.Scopes.{seen}
use Rattle.emit_expressions.proofs.values.write_plain_addends.Goals as goal

pub loop-addend-preserved : goal.loop-addend-preserved
loop-addend-preserved g c =
    row_went (plain_addend (seen c.args.scope.now)) c.args.addends.now c.loop-addend.addend-index c.addend-item.result _ c.loop-addend-test.true c.addend-item.is refl c.loop-addend.invariant c.in_ok-write_plain_addend.ensures

pub returns-in_err-write_plain_addend : goal.returns-in_err-write_plain_addend
returns-in_err-write_plain_addend g c =
    row_stopped (plain_addend (seen c.args.scope.now)) c.args.addends.now c.loop-addend.addend-index c.addend-item.result _ _ c.loop-addend-test.true c.addend-item.is refl c.from_residual.ensures.0 c.loop-addend.invariant c.in_err-write_plain_addend.ensures
