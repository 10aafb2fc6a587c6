use Rattle.emit_bodies.proofs.BodyTexts.{arrow_some}
use Rattle.base_io.proofs.Writing.{wrote_same}
use Rattle.emit_bodies.proofs.bodies.write_plain_arrow.Goals as goal

pub returns-in-Some : goal.returns-in-Some
returns-in-Some g c =
    wrote_same _ (arrow_some c.args.answer c.in-Some.kind c.kind_bytes.result.now c.in-Some.is c.kind_bytes.ensures) c.write_pieces.ensures
