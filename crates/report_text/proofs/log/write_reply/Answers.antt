use Rattle.std.proofs.Common.{codes}
use Rattle.report_text.specs.LogText.{wakes_text}
use Rattle.report_text.proofs.LogRows.{replied_text-parts}
use Rattle.base_io.proofs.Writing.{wrote_both, wrote_fails, wrote_longer, wrote_same}
use Rattle.report_text.proofs.log.write_reply.Goals as goal

pub returns-in_err-write_pieces : goal.returns-in_err-write_pieces
returns-in_err-write_pieces g c =
    wrote_same _ (replied_text-parts c.args.clients.now c.args.reply c.args.woken _ c.reply_bytes.ensures)
    (wrote_fails _ c.from_residual.ensures.0 (wrote_longer (codes "\n") (wrote_longer (wakes_text c.args.clients.now c.args.woken) c.in_err-write_pieces.ensures)))

pub returns-in_err-write_wakes : goal.returns-in_err-write_wakes
returns-in_err-write_wakes g c =
    wrote_same _ (replied_text-parts c.args.clients.now c.args.reply c.args.woken _ c.reply_bytes.ensures)
    (wrote_fails _ c.from_residual-in_err-write_wakes.ensures.0 (wrote_longer (codes "\n") (wrote_both c.in_ok-write_pieces.ensures c.in_err-write_wakes.ensures)))

pub returns : goal.returns
returns g c =
    wrote_same _ (replied_text-parts c.args.clients.now c.args.reply c.args.woken _ c.reply_bytes.ensures)
    (wrote_both (wrote_both c.in_ok-write_pieces.ensures c.in_ok-write_wakes.ensures) c.write_piece.ensures)
