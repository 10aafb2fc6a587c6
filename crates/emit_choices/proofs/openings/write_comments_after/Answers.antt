use Rattle.std.proofs.Common.{codes}
use Rattle.emit_comments.specs.Comments.{comment_docs}
use Rattle.base_io.proofs.Writing.{wrote_both, wrote_fails, wrote_longer}
use Rattle.emit_choices.proofs.openings.write_comments_after.Goals as goal

pub returns-in_err-write_piece : goal.returns-in_err-write_piece
returns-in_err-write_piece g c = wrote_fails _ c.from_residual.ensures.0 (wrote_longer (comment_docs (codes "    ") c.args.text.now c.args.place) c.in_err-write_piece.ensures)

pub returns : goal.returns
returns g c = wrote_both c.in_ok-write_piece.ensures c.write_comments.ensures
