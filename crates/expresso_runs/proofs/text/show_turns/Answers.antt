use Rattle.std.proofs.Common.{subst}
use Rattle.report_text.specs.TurnsText.{turns_text}
use Rattle.expresso_answers.specs.declared.status.Status.{Status}
use Rattle.expresso_answers.specs.Ending.{IsWritten}
use Rattle.expresso_runs.proofs.text.show_turns.Goals as goal

pub returns : goal.returns
returns g c =
    let text = turns_text c.args.monitor.now c.args.scripts.now c.args.turns.now in
    subst (λ (s : Status). IsWritten s text c.finish.result (g.S.Sink.seen c.args.out.now) (g.S.Sink.seen c.finish.new.out)) c.run_status.ensures
    (c.finish.ensures (g.S.Sink.seen c.args.out.now) text c.write_turns-outcome.ensures)
