use Rattle.base_io.proofs.Writing.{wrote_both, wrote_fails, wrote_longer, wrote_same}
use Rattle.emit_method.specs.Docs.{going_text}
use Rattle.emit_method.proofs.docs.write_asserting.Goals as goal

pub returns-in_err-write_own_comments : goal.returns-in_err-write_own_comments
returns-in_err-write_own_comments g c =
    wrote_fails _ c.from_residual.ensures.0 (wrote_longer (going_text 0) c.in_err-write_own_comments.ensures)

pub returns : goal.returns
returns g c =
    wrote_both c.in_ok-write_own_comments.ensures (wrote_same _ c.going_bytes.ensures c.write_piece.ensures)
