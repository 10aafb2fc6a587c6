use Rattle.std.proofs.Common.{ap, sym}
use Rattle.report_text.specs.LogText.{outcome_text, replied_text}
use Rattle.base_io.proofs.Writing.{wrote_both, wrote_fails, wrote_longer, wrote_same}
use Rattle.report_text.proofs.log.write_entry.Goals as goal

pub returns-in_err-write_call-in-Replies : goal.returns-in_err-write_call-in-Replies
returns-in_err-write_call-in-Replies g c =
    wrote_same _ (ap (outcome_text c.args.monitor.now c.args.clients.now c.args.entry.client c.args.entry.call c.args.entry.block) (sym c.in-Replies.is))
    (wrote_fails _ c.from_residual-in_err-write_call-in-Replies.ensures.0 (wrote_longer (replied_text c.args.clients.now c.in-Replies.reply c.in-Replies.woken) c.in_err-write_call-in-Replies.ensures))

pub returns-in_ok-write_call-in-Waits : goal.returns-in_ok-write_call-in-Waits
returns-in_ok-write_call-in-Waits g c =
    wrote_same _ (ap (outcome_text c.args.monitor.now c.args.clients.now c.args.entry.client c.args.entry.call c.args.entry.block) (sym c.in-Waits.is)) (wrote_both c.in_ok-write_call-in-Waits.ensures c.write_piece.ensures)

pub returns-in_ok-write_call-in-Replies : goal.returns-in_ok-write_call-in-Replies
returns-in_ok-write_call-in-Replies g c =
    wrote_same _ (ap (outcome_text c.args.monitor.now c.args.clients.now c.args.entry.client c.args.entry.call c.args.entry.block) (sym c.in-Replies.is)) (wrote_both c.in_ok-write_call-in-Replies.ensures c.write_reply.ensures)
