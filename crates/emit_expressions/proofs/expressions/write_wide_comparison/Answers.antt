use Rattle.std.proofs.Common.{◌++◌, ap}
use Rattle.emit_expressions.specs.Expressions.{written}
use Rattle.base_io.proofs.Writing.{wrote_both, wrote_same, wrote_until}
use Rattle.emit_expressions.specs.Scopes.{seen}
use Rattle.emit_expressions.proofs.expressions.write_wide_comparison.Goals as goal

pub returns-in_err-write_piece : goal.returns-in_err-write_piece
returns-in_err-write_piece g c =
    wrote_until _ _ _ (ap (λ sign. (written (seen c.args.scope.now) c.args.left.now).wide c.args.ending.now ++ sign ++ (written (seen c.args.scope.now) c.args.right.now).wide c.args.ending.now) c.op_bytes.ensures)
    c.from_residual-in_err-write_piece.ensures.0 c.in_ok-write_wide.ensures c.in_err-write_piece.ensures

pub returns : goal.returns
returns g c =
    wrote_same _ (ap (λ sign. (written (seen c.args.scope.now) c.args.left.now).wide c.args.ending.now ++ sign ++ (written (seen c.args.scope.now) c.args.right.now).wide c.args.ending.now) c.op_bytes.ensures)
    (wrote_both (wrote_both c.in_ok-write_wide.ensures c.in_ok-write_piece.ensures) c.write_wide-2.ensures)
