use Rattle.std.proofs.Common.{refl}
use Rattle.machine_events.specs.Configurations.{situation_of}
use Rattle.report_text.specs.LogText.{are_done}
use Rattle.front_command.specs.CommandLine.{simulate}
use Rattle.report_text.specs.Laws.{plan_and_log_text}
use Rattle.expresso_answers.specs.Ending.{ended}
use Rattle.expresso_answers.proofs.Outcomes.{written_since}
use Rattle.expresso_runs.proofs.Simulated.{simulation_closed, simulation_ended}
use Rattle.expresso_runs.proofs.simulate.simulate_files.Goals as goal

pub show_plan_and_log-requires : goal.show_plan_and_log-requires
show_plan_and_log-requires g c =
    let free = c.in-Ok-simulation.free in
    simulation_closed c.args.monitor.now c.args.clients.now c.args.schedule c.args.choice (g.F.Files.seen c.args.files.now) (g.F.Files.seen c.input_of.new.files) c.in-Ok.input.monitor free.system.plan c.in-Ok.input.scripts
    free.log free.now free.system c.in-Ok.ensures.input c.in-Ok-simulation.ensures.simulation c.in-Ok-simulation.ensures.system

pub returns-in-Err-clause-ended : goal.returns-in-Err-clause-ended
returns-in-Err-clause-ended g c =
    c.in-Err.ensures.ended (simulate c.args.monitor.now c.args.clients.now c.args.schedule c.args.choice) refl

pub returns-in-Ok-simulation-clause-ended : goal.returns-in-Ok-simulation-clause-ended
returns-in-Ok-simulation-clause-ended g c =
    let free = c.in-Ok-simulation.free in
    simulation_ended c.args.monitor.now c.args.clients.now c.args.schedule c.args.choice (g.F.Files.seen c.args.files.now) (g.F.Files.seen c.input_of.new.files) c.in-Ok.input.monitor free.system.plan c.in-Ok.input.scripts
    free.log free.now free.system c.in-Ok.ensures.input c.in-Ok-simulation.ensures.simulation c.in-Ok-simulation.ensures.system _ (g.S.Sink.seen c.args.out.now) _ c.in-Ok.ensures.quiet.steady
    (written_since (ended (are_done free.system.clients (situation_of free.now).places)) (plan_and_log_text free.system free.log free.now) _ _ _ _ c.in-Ok.ensures.quiet.silent c.show_plan_and_log.ensures)
