use Rattle.emit_expressions.specs.Scopes.{seen}
use Rattle.std.proofs.Common.{true}
use Rattle.emit_bodies.specs.Bodies.{answer_line}
use Rattle.emit_bodies.proofs.BodyTexts.{kept_plain, kept_tested}
use Rattle.base_io.proofs.Writing.{wrote_both, wrote_fails, wrote_longer, wrote_same}
use Rattle.emit_bodies.proofs.bodies.write_kept_answer.Goals as goal

pub returns-then-narrows : goal.returns-then-narrows
returns-then-narrows g c =
    wrote_same _ (kept_tested c.args.narrows (seen c.args.next.now) (seen c.args.kept.now) c.args.value.now c.if-narrows.true) c.write_tested_answer.ensures

pub returns-in_err-write_piece : goal.returns-in_err-write_piece
returns-in_err-write_piece g c =
    wrote_same _ (kept_plain c.args.narrows (seen c.args.next.now) (seen c.args.kept.now) c.args.value.now c.if-narrows.false)
    (wrote_fails _ c.from_residual.ensures.0 (wrote_longer (answer_line (seen c.args.kept.now) true c.args.value.now) c.in_err-write_piece.ensures))

pub returns : goal.returns
returns g c =
    wrote_same _ (kept_plain c.args.narrows (seen c.args.next.now) (seen c.args.kept.now) c.args.value.now c.if-narrows.false) (wrote_both c.in_ok-write_piece.ensures c.write_answer_line.ensures)
