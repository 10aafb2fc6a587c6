use Rattle.std.proofs.Common.{◌++◌, ap}
use Rattle.machine_events.specs.PlanText.{block_name}
use Rattle.base_pen.proofs.Putting.{adds_two}
use Rattle.report_fits.proofs.writing.put_name.Goals as goal

pub returns : goal.returns
returns g c =
    adds_two _ c.put.ensures c.put_block_name.ensures (ap (λ text. text ++ block_name c.args.monitor.now c.args.fit.now.block) c.sign_before.ensures)
