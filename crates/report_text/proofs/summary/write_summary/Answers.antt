use Rattle.std.proofs.Common.{◌∙◌, List, length, ap}
use Rattle.machine_events.specs.declared.log.Entry.{Entry}
use Rattle.machine_events.specs.Configurations.{situation_of}
use Rattle.machine_events.specs.Logs.{commits_of}
use Rattle.report_text.specs.LogText.{closing_text}
use Rattle.report_text.specs.SummaryText.{calls_text}
use Rattle.report_text.proofs.SummaryRows.{replies_are_commits}
use Rattle.base_io.proofs.Writing.{wrote_both, wrote_fails, wrote_longer, wrote_same}
use Rattle.report_text.proofs.summary.write_summary.Goals as goal

pub returns-in_err-write_calls : goal.returns-in_err-write_calls
returns-in_err-write_calls g c =
    let free = c.args.free.now in
    let calls = c.calls_replied.ensures ∙ replies_are_commits c.log.result.now ∙ ap (λ (log : List Entry). length (commits_of log)) c.log.ensures.log in
    wrote_fails _ c.from_residual.ensures.0 (wrote_longer (closing_text free.system.monitor free.system.clients (situation_of free.now)) (wrote_same _ (ap calls_text calls) c.in_err-write_calls.ensures))

pub returns : goal.returns
returns g c =
    let calls = c.calls_replied.ensures ∙ replies_are_commits c.log.result.now ∙ ap (λ (log : List Entry). length (commits_of log)) c.log.ensures.log in
    wrote_both (wrote_same _ (ap calls_text calls) c.in_ok-write_calls.ensures) c.write_closing.ensures
