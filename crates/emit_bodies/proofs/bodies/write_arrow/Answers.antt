use Rattle.emit_bodies.proofs.BodyTexts.{arrow_failing, arrow_sure}
use Rattle.base_io.proofs.Writing.{wrote_same}
use Rattle.emit_bodies.proofs.bodies.write_arrow.Goals as goal

pub returns-then-fails : goal.returns-then-fails
returns-then-fails g c =
    wrote_same _ (arrow_failing c.args.answer c.args.fails c.answer_bytes.result.now c.if-fails.true c.answer_bytes.ensures) c.write_pieces.ensures

pub returns : goal.returns
returns g c =
    wrote_same _ (arrow_sure c.args.answer c.args.fails c.if-fails.false) c.write_plain_arrow.ensures
