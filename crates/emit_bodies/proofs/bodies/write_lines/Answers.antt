use Rattle.emit_bodies.proofs.BodyTexts.{lines_copied, lines_own}
use Rattle.base_io.proofs.Writing.{wrote_same}
use Rattle.emit_bodies.proofs.bodies.write_lines.Goals as goal

pub returns-then-trace : goal.returns-then-trace
returns-then-trace g c =
    wrote_same _ (lines_copied c.args.tree.now c.args.method.now c.args.trace c.args.body.now c.args.whole _ _ c.if-trace.true c.body_scope-next.ensures c.body_scope-kept.ensures) c.write_copied_lines.ensures

pub returns : goal.returns
returns g c =
    wrote_same _ (lines_own c.args.tree.now c.args.method.now c.args.trace c.args.body.now c.args.whole _ c.if-trace.false c.body_scope-kept.ensures) c.write_own_lines.ensures
