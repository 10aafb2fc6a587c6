use Rattle.std.proofs.Common.{codes, ◌∙◌, ap}
use Rattle.emit_comments.specs.Comments.{comment_of, doc_mark, plain_text}
use Rattle.base_io.proofs.Writing.{wrote_both, wrote_fails, wrote_longer, wrote_same}
use Rattle.emit_comments.proofs.docs.write_line.Goals as goal

pub returns-in_err-write_piece : goal.returns-in_err-write_piece
returns-in_err-write_piece g c =
    wrote_fails _ c.from_residual.ensures.0 (wrote_longer (codes "\n") (wrote_longer (plain_text (comment_of c.args.line.now)) (wrote_longer (doc_mark (comment_of c.args.line.now)) c.in_err-write_piece.ensures)))

pub returns-in_err-write_piece-2 : goal.returns-in_err-write_piece-2
returns-in_err-write_piece-2 g c =
    wrote_fails _ c.from_residual-in_err-write_piece-2.ensures.0 (wrote_longer (codes "\n") (wrote_longer (plain_text (comment_of c.args.line.now)) (wrote_both c.in_ok-write_piece.ensures (wrote_same _ (c.doc_mark.ensures ∙ ap doc_mark c.comment_of-text.ensures) c.in_err-write_piece-2.ensures))))

pub returns-in_err-write_plain : goal.returns-in_err-write_plain
returns-in_err-write_plain g c =
    wrote_fails _ c.from_residual-in_err-write_plain.ensures.0 (wrote_longer (codes "\n") (wrote_both (wrote_both c.in_ok-write_piece.ensures (wrote_same _ (c.doc_mark.ensures ∙ ap doc_mark c.comment_of-text.ensures) c.in_ok-write_piece-2.ensures)) (wrote_same _ (ap plain_text c.comment_of-text.ensures) c.in_err-write_plain.ensures)))

pub returns : goal.returns
returns g c =
    wrote_both (wrote_both (wrote_both c.in_ok-write_piece.ensures (wrote_same _ (c.doc_mark.ensures ∙ ap doc_mark c.comment_of-text.ensures) c.in_ok-write_piece-2.ensures)) (wrote_same _ (ap plain_text c.comment_of-text.ensures) c.in_ok-write_plain.ensures)) c.write_piece-3.ensures
