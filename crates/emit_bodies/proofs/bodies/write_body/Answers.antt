use Rattle.emit_bodies.specs.Bodies.{braced, lines_by}
use Rattle.emit_bodies.proofs.BodyTexts.{body_says}
use Rattle.base_io.proofs.Writing.{wrote_both, wrote_fails, wrote_longer, wrote_same}
use Rattle.emit_bodies.proofs.bodies.write_body.Goals as goal

pub returns-in_err-write_head : goal.returns-in_err-write_head
returns-in_err-write_head g c =
    wrote_same _ (body_says c.args.tree.now c.args.method.now c.args.number c.args.answer c.args.body.now c.args.whole c.own_trace-traced.result c.own_trace-traced.ensures)
    (wrote_fails _ c.from_residual.ensures.0 (wrote_longer (braced c.args.body.now (lines_by c.args.tree.now c.args.method.now c.own_trace-traced.result c.args.body.now c.args.whole)) c.in_err-write_head.ensures))

pub returns : goal.returns
returns g c =
    wrote_same _ (body_says c.args.tree.now c.args.method.now c.args.number c.args.answer c.args.body.now c.args.whole c.own_trace-traced.result c.own_trace-traced.ensures)
    (wrote_both c.in_ok-write_head.ensures c.write_braced.ensures)
