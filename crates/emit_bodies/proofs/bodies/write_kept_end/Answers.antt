use Rattle.emit_expressions.specs.Scopes.{seen}
use Rattle.std.proofs.Common.{[], rules}
use Rattle.emit_bodies.specs.Bodies.{kept_end_text, last_of}
use Rattle.emit_bodies.proofs.BodyTexts.{last_none, last_some}
use Rattle.base_io.proofs.Writing.{wrote_same}
use Rattle.emit_bodies.proofs.bodies.write_kept_end.Goals as goal

pub returns-in-None : goal.returns-in-None
returns-in-None g c =
    wrote_same _ (last_none (kept_end_text (seen c.args.next.now) (seen c.args.kept.now)) [] c.last.result (last_of c.args.body.now) c.last.ensures.value c.in-None.is) (search rules)

pub returns-in-Some : goal.returns-in-Some
returns-in-Some g c =
    wrote_same _ (last_some (kept_end_text (seen c.args.next.now) (seen c.args.kept.now)) [] c.last.result (last_of c.args.body.now) c.in-Some.last c.last.ensures.value c.in-Some.is) c.write_kept_end_after.ensures
