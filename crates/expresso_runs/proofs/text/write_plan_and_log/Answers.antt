use Rattle.base_io.proofs.Writing.{wrote_both, wrote_fails, wrote_longer, wrote_same}
use Rattle.report_text.specs.LogText.{log_text}
use Rattle.expresso_runs.proofs.Simulating.{simulation_text-parts}
use Rattle.expresso_runs.proofs.text.write_plan_and_log.Goals as goal

pub returns-in_err-write_plan : goal.returns-in_err-write_plan
returns-in_err-write_plan g c =
    let begun = wrote_longer (log_text c.args.free.now.system c.args.free.now.log c.args.free.now.now) c.in_err-write_plan.ensures in
    wrote_same _ (simulation_text-parts c.args.free.now c.monitor.result.now c.plan.result.now c.monitor.ensures.monitor c.plan.ensures.plan) (wrote_fails _ c.from_residual.ensures.0 begun)

pub returns : goal.returns
returns g c =
    wrote_same _ (simulation_text-parts c.args.free.now c.monitor.result.now c.plan.result.now c.monitor.ensures.monitor c.plan.ensures.plan) (wrote_both c.in_ok-write_plan.ensures c.write_log.ensures)
