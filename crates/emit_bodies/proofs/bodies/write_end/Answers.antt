use Rattle.emit_expressions.specs.Scopes.{seen}
use Rattle.emit_bodies.specs.Bodies.{done_text, end_text, last_of}
use Rattle.std.proofs.Common.{◌∙◌}
use Rattle.emit_bodies.proofs.BodyTexts.{last_none, last_some}
use Rattle.base_io.proofs.Writing.{wrote_same}
use Rattle.emit_bodies.proofs.bodies.write_end.Goals as goal

pub returns-in-None : goal.returns-in-None
returns-in-None g c =
    wrote_same _ (c.done_bytes.ensures ∙ last_none (end_text (seen c.args.scope.now) c.args.fails) (done_text c.args.fails) c.last.result (last_of c.args.body.now) c.last.ensures.value c.in-None.is) c.write_piece.ensures

pub returns-in-Some : goal.returns-in-Some
returns-in-Some g c =
    wrote_same _ (last_some (end_text (seen c.args.scope.now) c.args.fails) (done_text c.args.fails) c.last.result (last_of c.args.body.now) c.in-Some.last c.last.ensures.value c.in-Some.is) c.write_end_after.ensures
