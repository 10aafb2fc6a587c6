use Rattle.std.proofs.Common.{codes}
use Rattle.emit_expressions.specs.Scopes.{name_text, seen}
use Rattle.emit_expressions.specs.Values.{value_text}
use Rattle.base_io.proofs.Writing.{wrote_both, wrote_fails, wrote_longer}
use Rattle.emit_bodies.proofs.statements.write_assignment.Goals as goal

pub returns-in_err-write_indent : goal.returns-in_err-write_indent
returns-in_err-write_indent g c =
    wrote_fails _ c.from_residual.ensures.0 (wrote_longer (codes ";\n") (wrote_longer (value_text (seen c.args.scope.now) c.args.value.now (codes "?")) (wrote_longer (codes " = ") (wrote_longer (name_text (seen c.args.scope.now) c.args.name.now) c.in_err-write_indent.ensures))))

pub returns-in_err-write_name : goal.returns-in_err-write_name
returns-in_err-write_name g c =
    wrote_fails _ c.from_residual-in_err-write_name.ensures.0 (wrote_longer (codes ";\n") (wrote_longer (value_text (seen c.args.scope.now) c.args.value.now (codes "?")) (wrote_longer (codes " = ") (wrote_both c.in_ok-write_indent.ensures c.in_err-write_name.ensures))))

pub returns-in_err-write_piece : goal.returns-in_err-write_piece
returns-in_err-write_piece g c =
    wrote_fails _ c.from_residual-in_err-write_piece.ensures.0 (wrote_longer (codes ";\n") (wrote_longer (value_text (seen c.args.scope.now) c.args.value.now (codes "?")) (wrote_both (wrote_both c.in_ok-write_indent.ensures c.in_ok-write_name.ensures) c.in_err-write_piece.ensures)))

pub returns-in_err-write_value : goal.returns-in_err-write_value
returns-in_err-write_value g c =
    wrote_fails _ c.from_residual-in_err-write_value.ensures.0 (wrote_longer (codes ";\n") (wrote_both (wrote_both (wrote_both c.in_ok-write_indent.ensures c.in_ok-write_name.ensures) c.in_ok-write_piece.ensures) c.in_err-write_value.ensures))

pub returns : goal.returns
returns g c =
    wrote_both (wrote_both (wrote_both (wrote_both c.in_ok-write_indent.ensures c.in_ok-write_name.ensures) c.in_ok-write_piece.ensures) c.in_ok-write_value.ensures) c.write_piece-2.ensures
