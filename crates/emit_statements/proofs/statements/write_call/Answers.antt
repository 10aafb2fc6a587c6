use Rattle.std.proofs.Common.{codes}
use Rattle.base_io.proofs.Writing.{wrote_both, wrote_fails, wrote_longer}
use Rattle.emit_statements.specs.Statements.{method_seen, own_call}
use Rattle.emit_expressions.specs.declared.scope.Reach.TheVariants as reaches
use Rattle.emit_statements.proofs.statements.write_call.Goals as goal

pub returns-in_err-write_piece : goal.returns-in_err-write_piece
returns-in_err-write_piece g c =
    wrote_fails _ c.from_residual.ensures.0 (wrote_longer (own_call (method_seen c.args.it.now) (codes "run") c.args.block reaches.Lent) c.in_err-write_piece.ensures)

pub returns : goal.returns
returns g c =
    wrote_both c.in_ok-write_piece.ensures c.write_own_call.ensures
