use Rattle.std.proofs.Common.{ap}
use Rattle.emit_comments.specs.Comments.{has_comments}
use Rattle.emit_choices.specs.Openings.{said_by}
use Rattle.base_io.proofs.Writing.{wrote_both, wrote_fails, wrote_longer, wrote_same}
use Rattle.emit_choices.proofs.openings.write_parameter_said.Goals as goal

pub returns-in_err-write_piece : goal.returns-in_err-write_piece
returns-in_err-write_piece g c = wrote_fails _ c.from_residual.ensures.0 (wrote_longer (said_by c.args.text.now c.args.place (has_comments c.args.text.now c.args.place)) (wrote_longer (c.args.name.now) c.in_err-write_piece.ensures))

pub returns-in_err-write_piece-2 : goal.returns-in_err-write_piece-2
returns-in_err-write_piece-2 g c = wrote_fails _ c.from_residual-in_err-write_piece-2.ensures.0 (wrote_longer (said_by c.args.text.now c.args.place (has_comments c.args.text.now c.args.place)) (wrote_both c.in_ok-write_piece.ensures (wrote_same _ (c.bytes.ensures) c.in_err-write_piece-2.ensures)))

pub returns : goal.returns
returns g c = wrote_both (wrote_both c.in_ok-write_piece.ensures (wrote_same _ (c.bytes.ensures) c.in_ok-write_piece-2.ensures)) (wrote_same _ (ap (said_by c.args.text.now c.args.place) c.has_comments.ensures) c.write_said.ensures)
