use Rattle.std.proofs.Common.{codes}
use Rattle.emit_expressions.specs.Scopes.{seen}
use Rattle.emit_expressions.specs.Expressions.{plain_text}
use Rattle.base_io.proofs.Writing.{wrote_both, wrote_fails, wrote_longer}
use Rattle.emit_bodies.proofs.bodies.write_wrapped.Goals as goal

pub returns-in_err-write_piece : goal.returns-in_err-write_piece
returns-in_err-write_piece g c =
    wrote_fails _ c.from_residual.ensures.0 (wrote_longer (codes ")") (wrote_longer (plain_text (seen c.args.scope.now) c.args.value.now) c.in_err-write_piece.ensures))

pub returns-in_err-write_plain : goal.returns-in_err-write_plain
returns-in_err-write_plain g c =
    wrote_fails _ c.from_residual-in_err-write_plain.ensures.0 (wrote_longer (codes ")") (wrote_both c.in_ok-write_piece.ensures c.in_err-write_plain.ensures))

pub returns : goal.returns
returns g c =
    wrote_both (wrote_both c.in_ok-write_piece.ensures c.in_ok-write_plain.ensures) c.write_piece-2.ensures
