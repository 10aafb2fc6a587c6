use Rattle.std.proofs.Common.{codes}
use Rattle.emit_expressions.specs.Scopes.{is_read, name_text, seen}
use Rattle.base_io.proofs.Writing.{wrote_both, wrote_fails, wrote_longer, wrote_same, wrote_until}
use Rattle.emit_expressions.proofs.Written.{wide_read, wide_unread}
use Rattle.emit_expressions.proofs.expressions.write_wide_name.Goals as goal

pub returns-then-not-is_read : goal.returns-then-not-is_read
returns-then-not-is_read g c =
    wrote_same _ (wide_unread (is_read (seen c.args.scope.now) c.args.name.now) c.is_read.result (name_text (seen c.args.scope.now) c.args.name.now) c.args.ending.now c.is_read.ensures c.if-not-is_read.true) c.write_pieces.ensures

pub returns-in_err-write_name : goal.returns-in_err-write_name
returns-in_err-write_name g c =
    wrote_until (codes ")") _ _ (wide_read (is_read (seen c.args.scope.now) c.args.name.now) c.is_read.result (name_text (seen c.args.scope.now) c.args.name.now) c.args.ending.now c.is_read.ensures c.if-not-is_read.false)
    c.from_residual-in_err-write_name.ensures.0 c.in_ok-write_piece.ensures c.in_err-write_name.ensures

pub returns : goal.returns
returns g c =
    wrote_same _ (wide_read (is_read (seen c.args.scope.now) c.args.name.now) c.is_read.result (name_text (seen c.args.scope.now) c.args.name.now) c.args.ending.now c.is_read.ensures c.if-not-is_read.false)
    (wrote_both (wrote_both c.in_ok-write_piece.ensures c.in_ok-write_name.ensures) c.write_piece-2.ensures)

pub returns-in_err-write_piece : goal.returns-in_err-write_piece
returns-in_err-write_piece g c =
    wrote_same _ (wide_read (is_read (seen c.args.scope.now) c.args.name.now) c.is_read.result (name_text (seen c.args.scope.now) c.args.name.now) c.args.ending.now c.is_read.ensures c.if-not-is_read.false)
    (wrote_fails _ c.from_residual.ensures.0 (wrote_longer (codes ")") (wrote_longer (name_text (seen c.args.scope.now) c.args.name.now) c.in_err-write_piece.ensures)))
