use Rattle.std.proofs.Common.{refl}
use Rattle.report_text.specs.TurnsText.{turns_text}
use Rattle.front_command.specs.CommandLine.{turns}
use Rattle.expresso_answers.specs.Ending.{ended}
use Rattle.expresso_answers.proofs.Outcomes.{written_since}
use Rattle.expresso_runs.proofs.TakenTurns.{run_ended}
use Rattle.expresso_runs.proofs.turns.take_turns.Goals as goal

pub returns-in-Err-clause-ended : goal.returns-in-Err-clause-ended
returns-in-Err-clause-ended g c = c.in-Err.ensures.ended (turns c.args.monitor.now c.args.clients.now) refl

pub returns-in-Ok-turns-clause-ended : goal.returns-in-Ok-turns-clause-ended
returns-in-Ok-turns-clause-ended g c =
    let input = c.in-Ok.input in
    let run = c.in-Ok-turns.run' in
    run_ended c.args.monitor.now c.args.clients.now (g.F.Files.seen c.args.files.now) (g.F.Files.seen c.input_of.new.files) input.monitor input.scripts run
    c.in-Ok.ensures.input c.in-Ok-turns.ensures.rounds _ (g.S.Sink.seen c.args.out.now) _ c.in-Ok.ensures.quiet.steady
    (written_since (ended run.finished) (turns_text input.monitor input.scripts run) _ _ _ _ c.in-Ok.ensures.quiet.silent c.show_turns.ensures)
