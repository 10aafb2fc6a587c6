use Rattle.std.proofs.Common.{List, ◌++◌, ap}
use Rattle.machine_implicit.specs.declared.place.Place.{Place}
use Rattle.report_text.specs.TurnsText.{end_text, state_text}
use Rattle.base_io.proofs.Writing.{wrote_both, wrote_fails, wrote_longer, wrote_same}
use Rattle.report_text.proofs.turns.write_ended.Goals as goal

pub returns-in_err-write_end : goal.returns-in_err-write_end
returns-in_err-write_end g c =
    let turns = c.args.turns.now in
    let state = state_text c.args.monitor.now turns.state in
    wrote_same _ (ap (λ (places : List Place). end_text c.args.monitor.now c.args.clients.now places turns.finished ++ state) c.items.ensures)
    (wrote_fails _ c.from_residual.ensures.0 (wrote_longer state c.in_err-write_end.ensures))

pub returns : goal.returns
returns g c =
    let turns = c.args.turns.now in
    let state = state_text c.args.monitor.now turns.state in
    wrote_same _ (ap (λ (places : List Place). end_text c.args.monitor.now c.args.clients.now places turns.finished ++ state) c.items.ensures)
    (wrote_both c.in_ok-write_end.ensures c.write_state.ensures)
