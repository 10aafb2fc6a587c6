use Rattle.std.proofs.Common.{[]}
use Rattle.std.specs.Option.{option_map_or}
use Rattle.emit_expressions.specs.Scopes.{seen}
use Rattle.emit_bodies.specs.Statements.{statements_text}
use Rattle.emit_bodies.specs.Bodies.{kept_end_text, last_of}
use Rattle.base_io.proofs.Writing.{wrote_both, wrote_fails, wrote_longer}
use Rattle.emit_bodies.proofs.bodies.write_copied_lines.Goals as goal

pub returns-in_err-write_piece : goal.returns-in_err-write_piece
returns-in_err-write_piece g c =
    wrote_fails _ c.from_residual.ensures.0 (wrote_longer (option_map_or (kept_end_text (seen c.args.next.now) (seen c.args.kept.now)) (last_of c.args.body.now) []) (wrote_longer (statements_text (seen c.args.next.now) 2 c.args.body.now) c.in_err-write_piece.ensures))

pub returns-in_err-write_inner_statements : goal.returns-in_err-write_inner_statements
returns-in_err-write_inner_statements g c =
    wrote_fails _ c.from_residual-in_err-write_inner_statements.ensures.0 (wrote_longer (option_map_or (kept_end_text (seen c.args.next.now) (seen c.args.kept.now)) (last_of c.args.body.now) []) (wrote_both c.in_ok-write_piece.ensures c.in_err-write_inner_statements.ensures))

pub returns : goal.returns
returns g c =
    wrote_both (wrote_both c.in_ok-write_piece.ensures c.in_ok-write_inner_statements.ensures) c.write_kept_end.ensures
