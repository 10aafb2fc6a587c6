use Rattle.std.proofs.Common.{[], codes}
use Rattle.emit_expressions.specs.Expressions.{written}
use Rattle.base_io.proofs.Writing.{wrote_both, wrote_fails, wrote_longer}
use Rattle.emit_expressions.specs.Scopes.{seen}
use Rattle.emit_expressions.proofs.values.write_shortened.Goals as goal

pub returns-in_err-write_piece : goal.returns-in_err-write_piece
returns-in_err-write_piece g c =
    wrote_fails _ c.from_residual.ensures.0 (wrote_longer (codes ")") (wrote_longer ((written (seen c.args.scope.now) c.args.expression.now).wide []) c.in_err-write_piece.ensures))

pub returns-in_err-write_wide : goal.returns-in_err-write_wide
returns-in_err-write_wide g c =
    wrote_fails _ c.from_residual-in_err-write_wide.ensures.0 (wrote_longer (codes ")") (wrote_both c.in_ok-write_piece.ensures c.in_err-write_wide.ensures))

pub returns : goal.returns
returns g c =
    wrote_both (wrote_both c.in_ok-write_piece.ensures c.in_ok-write_wide.ensures) c.write_piece-2.ensures
