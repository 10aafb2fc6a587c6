use Rattle.std.proofs.Common.{◌++◌, Option, ap}
use Rattle.lang_monitor.specs.declared.monitor.Block.{Block}
use Rattle.machine_events.specs.PlanText.{block_name}
use Rattle.base_io.proofs.Writing.{wrote_both, wrote_same}
use Rattle.logic_solve.specs.Solutions.{valuation_of}
use Rattle.report_reasons.specs.ReasonText.{client_text}
use Rattle.report_reasons.proofs.clients.write_running.Goals as goal

pub returns : goal.returns
returns g c =
    wrote_same _ (ap (λ (held : Option Block). block_name c.args.monitor.now c.args.block ++ client_text c.args.tree.now c.args.monitor.now (valuation_of c.args.at.now) 0 held) c.block_at.ensures)
    (wrote_both c.in_ok-write_block_name.ensures c.write_client.ensures)
