use Rattle.std.proofs.Common.{codes}
use Rattle.emit_expressions.specs.Scopes.{seen}
use Rattle.emit_expressions.specs.Values.{value_text}
use Rattle.base_io.proofs.Writing.{wrote_both, wrote_fails, wrote_longer}
use Rattle.emit_bodies.proofs.bodies.write_tested_answer.Goals as goal

pub returns-in_err-write_piece : goal.returns-in_err-write_piece
returns-in_err-write_piece g c =
    wrote_fails _ c.from_residual.ensures.0 (wrote_longer (codes ";\n        *self = next;\n        Ok(answer)\n") (wrote_longer (value_text (seen c.args.next.now) c.args.value.now (codes "?")) c.in_err-write_piece.ensures))

pub returns-in_err-write_value : goal.returns-in_err-write_value
returns-in_err-write_value g c =
    wrote_fails _ c.from_residual-in_err-write_value.ensures.0 (wrote_longer (codes ";\n        *self = next;\n        Ok(answer)\n") (wrote_both c.in_ok-write_piece.ensures c.in_err-write_value.ensures))

pub returns : goal.returns
returns g c =
    wrote_both (wrote_both c.in_ok-write_piece.ensures c.in_ok-write_value.ensures) c.write_piece-2.ensures
