use Rattle.std.proofs.Common.{refl}
use Rattle.emit_expressions.specs.Values.{plain_factor}
use Rattle.base_io.proofs.Rows.{row_stopped, row_went}
use Rattle.emit_expressions.specs.Scopes.{seen}
use Rattle.emit_expressions.proofs.values.write_plain_factors.Goals as goal

pub loop-factor-preserved : goal.loop-factor-preserved
loop-factor-preserved g c =
    row_went (plain_factor (seen c.args.scope.now)) c.args.factors.now c.loop-factor.factor-index c.factor-item.result _ c.loop-factor-test.true c.factor-item.is refl c.loop-factor.invariant c.in_ok-write_plain_factor.ensures

pub returns-in_err-write_plain_factor : goal.returns-in_err-write_plain_factor
returns-in_err-write_plain_factor g c =
    row_stopped (plain_factor (seen c.args.scope.now)) c.args.factors.now c.loop-factor.factor-index c.factor-item.result _ _ c.loop-factor-test.true c.factor-item.is refl c.from_residual.ensures.0 c.loop-factor.invariant c.in_err-write_plain_factor.ensures
