use Rattle.report_text.specs.LogText.{entry_text}
use Rattle.base_io.proofs.Rows.{flat_map-next, flat_map-parts}
use Rattle.base_io.proofs.Writing.{wrote_both, wrote_same, wrote_until}
use Rattle.report_text.proofs.log.write_entries.Goals as goal

pub loop-entry-preserved : goal.loop-entry-preserved
loop-entry-preserved g c =
    wrote_same _ (flat_map-next (entry_text c.args.monitor.now c.args.clients.now) c.args.log.now c.loop-entry.entry-index _ c.loop-entry-test.true) (wrote_both c.loop-entry.invariant c.in_ok-write_entry.ensures)

pub returns-in_err-write_entry : goal.returns-in_err-write_entry
returns-in_err-write_entry g c =
    wrote_until _ _ _ (flat_map-parts (entry_text c.args.monitor.now c.args.clients.now) c.args.log.now c.loop-entry.entry-index _ c.loop-entry-test.true) c.from_residual.ensures.0 c.loop-entry.invariant c.in_err-write_entry.ensures
