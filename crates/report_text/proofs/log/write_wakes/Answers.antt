use Rattle.report_text.specs.LogText.{woken_names}
use Rattle.report_text.proofs.LogRows.{wakes_text-some}
use Rattle.base_io.proofs.Writing.{wrote_both, wrote_fails, wrote_longer, wrote_same}
use Rattle.report_text.proofs.log.write_wakes.Goals as goal

pub returns-in_err-write_piece : goal.returns-in_err-write_piece
returns-in_err-write_piece g c =
    wrote_same _ (wakes_text-some c.args.clients.now c.args.woken c.if-woken-eq0.false) (wrote_fails _ c.from_residual.ensures.0 (wrote_longer (woken_names c.args.woken c.args.clients.now) c.in_err-write_piece.ensures))

pub returns : goal.returns
returns g c = wrote_same _ (wakes_text-some c.args.clients.now c.args.woken c.if-woken-eq0.false) (wrote_both c.in_ok-write_piece.ensures c.write_woken.ensures)
