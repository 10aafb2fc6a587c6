use Rattle.std.proofs.Common.{append_assoc}
use Rattle.base_io.proofs.Writing.{wrote_both, wrote_fails, wrote_longer, wrote_same}
use Rattle.report_text.proofs.turns.write_commit.Goals as goal

pub returns-in_err-write_call : goal.returns-in_err-write_call
returns-in_err-write_call g c =
    wrote_fails _ c.from_residual.ensures.0 (wrote_longer _ (wrote_longer _ (wrote_longer _ c.in_err-write_call.ensures)))

pub returns : goal.returns
returns g c = wrote_same _ (simp (append_assoc, c.reply_bytes.ensures)) (wrote_both c.in_ok-write_call.ensures c.write_pieces.ensures)
