use Rattle.expresso_runs.proofs.Stressed.{large_ended}
use Rattle.expresso_runs.proofs.stress.run_large.Goals as goal

pub returns-in-Ok-worked : goal.returns-in-Ok-worked
returns-in-Ok-worked g c = λ files.
    let free = c.in-Ok-worked.free in
    large_ended c.every_large_run_ends_done.ensures c.args.number c.args.workers c.in-Ok.field-0.monitor c.in-Ok.field-0.scripts free.system.plan free.log free.now free.system
    c.in-Ok.ensures.monitor c.in-Ok.ensures.scripts c.in-Ok-worked.ensures.placed c.in-Ok-worked.ensures.unprompted c.in-Ok-worked.ensures.system files _ _ _ c.show_summary.ensures
