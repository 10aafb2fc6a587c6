use Rattle.report_text.specs.TurnsText.{ended_text, last_of}
use Rattle.report_text.proofs.TurnsRows.{turns_text-parts}
use Rattle.base_io.proofs.Writing.{wrote_both, wrote_fails, wrote_longer, wrote_same}
use Rattle.report_text.proofs.turns.write_turns.Goals as goal

pub returns-in_err-write_commits : goal.returns-in_err-write_commits
returns-in_err-write_commits g c =
    let turns = c.args.turns.now in
    let clients = c.clients-clients.result.now in
    let text = turns_text-parts c.args.monitor.now c.args.scripts.now turns clients c.items.result.now c.clients-clients.ensures.clients c.items.ensures in
    wrote_same _ text (wrote_fails _ c.from_residual.ensures.0 (wrote_longer (ended_text c.args.monitor.now clients (last_of turns) turns.finished) c.in_err-write_commits.ensures))

pub returns : goal.returns
returns g c =
    let text = turns_text-parts c.args.monitor.now c.args.scripts.now c.args.turns.now c.clients-clients.result.now c.items.result.now c.clients-clients.ensures.clients c.items.ensures in
    wrote_same _ text (wrote_both c.in_ok-write_commits.ensures c.write_ended.ensures)
