use Rattle.std.proofs.Common.{[], ◌++◌, codes}
use Rattle.emit_expressions.specs.Expressions.{written}
use Rattle.base_io.proofs.Writing.{wrote_both, wrote_fails, wrote_longer, wrote_same, wrote_until}
use Rattle.emit_expressions.proofs.Written.{narrow_parts, narrow_cut}
use Rattle.emit_expressions.specs.Scopes.{seen}
use Rattle.emit_expressions.proofs.values.write_narrowed.Goals as goal

pub returns-in_err-write_wide : goal.returns-in_err-write_wide
returns-in_err-write_wide g c =
    wrote_until (codes ")" ++ c.args.ending.now) _ _ (narrow_cut (codes "narrow(") ((written (seen c.args.scope.now) c.args.expression.now).wide []) (codes ")") c.args.ending.now)
    c.from_residual-in_err-write_wide.ensures.0 c.in_ok-write_piece.ensures c.in_err-write_wide.ensures

pub returns : goal.returns
returns g c =
    wrote_same _ (narrow_parts (codes "narrow(") ((written (seen c.args.scope.now) c.args.expression.now).wide []) (codes ")") c.args.ending.now)
    (wrote_both c.in_ok-write_piece.ensures (wrote_both c.in_ok-write_wide.ensures c.write_pieces.ensures))

pub returns-in_err-write_piece : goal.returns-in_err-write_piece
returns-in_err-write_piece g c =
    wrote_fails _ c.from_residual.ensures.0 (wrote_longer c.args.ending.now (wrote_longer (codes ")") (wrote_longer ((written (seen c.args.scope.now) c.args.expression.now).wide []) c.in_err-write_piece.ensures)))
