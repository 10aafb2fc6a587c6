use Rattle.std.proofs.Common.{◌∙◌}
use Rattle.machine_events.specs.Configurations.{situation_of}
use Rattle.report_text.specs.LogText.{closing_text}
use Rattle.report_text.proofs.LogRows.{entries_text-parts}
use Rattle.base_io.proofs.Writing.{wrote_both, wrote_fails, wrote_longer, wrote_same}
use Rattle.report_text.proofs.log.write_log.Goals as goal

pub returns-in_err-write_entries : goal.returns-in_err-write_entries
returns-in_err-write_entries g c =
    let free = c.args.free.now in
    let text = entries_text-parts free.system free.log _ _ _ c.monitor.ensures.monitor (c.clients.ensures.clients ∙ c.scripts.ensures.scripts) c.log.ensures.log in
    wrote_fails _ c.from_residual.ensures.0 (wrote_longer (closing_text free.system.monitor free.system.clients (situation_of free.now)) (wrote_same _ text c.in_err-write_entries.ensures))

pub returns : goal.returns
returns g c =
    let free = c.args.free.now in
    let text = entries_text-parts free.system free.log _ _ _ c.monitor.ensures.monitor (c.clients.ensures.clients ∙ c.scripts.ensures.scripts) c.log.ensures.log in
    wrote_both (wrote_same _ text c.in_ok-write_entries.ensures) c.write_closing.ensures
