use Rattle.std.proofs.Common.{ap, Bool}
use Rattle.emit_comments.specs.Comments.{due_text, empty_line, has_comments}
use Rattle.base_io.proofs.Writing.{wrote_both, wrote_fails, wrote_longer, wrote_same}
use Rattle.emit_comments.proofs.docs.write_leading.Goals as goal

pub returns-in_err-write_comments : goal.returns-in_err-write_comments
returns-in_err-write_comments g c =
    wrote_fails _ c.from_residual.ensures.0 (wrote_longer (due_text (has_comments c.args.text.now c.args.place) (empty_line c.args.indent.now)) c.in_err-write_comments.ensures)

pub returns : goal.returns
returns g c =
    wrote_both c.in_ok-write_comments.ensures (wrote_same _ (ap (λ (b : Bool). due_text b (empty_line c.args.indent.now)) c.has_comments.ensures) c.write_gap.ensures)
