use Rattle.std.proofs.Common.{codes}
use Rattle.emit_expressions.specs.Scopes.{seen}
use Rattle.emit_bodies.specs.Bodies.{result_text}
use Rattle.base_io.proofs.Writing.{wrote_both, wrote_fails, wrote_longer}
use Rattle.emit_bodies.proofs.bodies.write_answer_line.Goals as goal

pub returns-in_err-write_piece : goal.returns-in_err-write_piece
returns-in_err-write_piece g c =
    wrote_fails _ c.from_residual.ensures.0 (wrote_longer (codes "\n") (wrote_longer (result_text (seen c.args.scope.now) c.args.fails c.args.value.now) c.in_err-write_piece.ensures))

pub returns-in_err-write_result : goal.returns-in_err-write_result
returns-in_err-write_result g c =
    wrote_fails _ c.from_residual-in_err-write_result.ensures.0 (wrote_longer (codes "\n") (wrote_both c.in_ok-write_piece.ensures c.in_err-write_result.ensures))

pub returns : goal.returns
returns g c =
    wrote_both (wrote_both c.in_ok-write_piece.ensures c.in_ok-write_result.ensures) c.write_piece-2.ensures
