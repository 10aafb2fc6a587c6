use Rattle.emit_bodies.specs.Bodies.{body_text}
use Rattle.base_io.proofs.Writing.{wrote_both, wrote_fails, wrote_longer}
use Rattle.emit_module.proofs.state.write_own_body.Goals as goal

pub returns-in_err-write_piece : goal.returns-in_err-write_piece
returns-in_err-write_piece g c =
    wrote_fails _ c.from_residual.ensures.0 (wrote_longer (body_text c.args.source.now.tree.now c.args.method.now c.args.number c.args.answer c.args.body.now c.args.whole) c.in_err-write_piece.ensures)

pub returns : goal.returns
returns g c =
    wrote_both c.in_ok-write_piece.ensures c.write_body.ensures
