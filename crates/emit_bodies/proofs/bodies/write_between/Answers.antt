use Rattle.std.proofs.Common.{codes}
use Rattle.emit_bodies.specs.Bodies.{lines_by}
use Rattle.base_io.proofs.Writing.{wrote_both, wrote_fails, wrote_longer}
use Rattle.emit_bodies.proofs.bodies.write_between.Goals as goal

pub returns-in_err-write_piece : goal.returns-in_err-write_piece
returns-in_err-write_piece g c =
    wrote_fails _ c.from_residual.ensures.0 (wrote_longer (codes "    }\n") (wrote_longer (lines_by c.args.tree.now c.args.method.now c.args.trace c.args.body.now c.args.whole) c.in_err-write_piece.ensures))

pub returns-in_err-write_lines : goal.returns-in_err-write_lines
returns-in_err-write_lines g c =
    wrote_fails _ c.from_residual-in_err-write_lines.ensures.0 (wrote_longer (codes "    }\n") (wrote_both c.in_ok-write_piece.ensures c.in_err-write_lines.ensures))

pub returns : goal.returns
returns g c =
    wrote_both (wrote_both c.in_ok-write_piece.ensures c.in_ok-write_lines.ensures) c.write_piece-2.ensures
