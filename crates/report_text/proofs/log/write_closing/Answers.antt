use Rattle.std.proofs.Common.{◌∙◌, refl}
use Rattle.report_text.specs.TurnsText.{state_text}
use Rattle.report_text.proofs.LogRows.{closing_text-parts}
use Rattle.base_io.proofs.Writing.{wrote_both, wrote_fails, wrote_longer, wrote_same}
use Rattle.report_text.proofs.log.write_closing.Goals as goal

pub returns-in_err-write_end : goal.returns-in_err-write_end
returns-in_err-write_end g c =
    let free = c.args.free.now in
    let text = closing_text-parts free.system free.now _ free.system.monitor _ _ free.now.state c.monitor.ensures.monitor refl (c.clients-clients.ensures.clients ∙ c.scripts.ensures.scripts) c.are_done.ensures refl in
    wrote_same _ text (wrote_fails _ c.from_residual.ensures.0 (wrote_longer (state_text free.system.monitor free.now.state) c.in_err-write_end.ensures))

pub returns : goal.returns
returns g c =
    let free = c.args.free.now in
    let text = closing_text-parts free.system free.now _ _ _ _ _ c.monitor.ensures.monitor c.monitor-2.ensures.monitor (c.clients-clients.ensures.clients ∙ c.scripts.ensures.scripts) c.are_done.ensures c.state.ensures.state in
    wrote_same _ text (wrote_both c.in_ok-write_end.ensures c.write_state.ensures)
