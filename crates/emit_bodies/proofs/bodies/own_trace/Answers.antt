use Rattle.emit_bodies.proofs.BodyTexts.{own_says}
use Rattle.emit_bodies.proofs.bodies.own_trace.Goals as goal

pub returns : goal.returns
returns c = own_says c.args.tree.now c.args.method.now c.args.body.now c.args.whole _ c.trace_body.result c.body_scope.ensures c.trace_body.ensures
