use Rattle.std.proofs.Common.{codes, refl}
use Rattle.report_text.specs.TurnsText.{fields_text}
use Rattle.report_text.proofs.TurnsRows.{state_text-parts}
use Rattle.base_io.proofs.Writing.{wrote_both, wrote_fails, wrote_longer, wrote_same}
use Rattle.report_text.proofs.turns.write_state.Goals as goal

pub returns-in_err-write_piece : goal.returns-in_err-write_piece
returns-in_err-write_piece g c =
    let begun = wrote_longer (codes "\n") (wrote_longer (fields_text c.args.monitor.now.fields c.args.state.now) c.in_err-write_piece.ensures) in
    wrote_same _ (state_text-parts c.args.monitor.now c.args.monitor.now.fields c.args.state.now c.args.state.now refl refl) (wrote_fails _ c.from_residual.ensures.0 begun)

pub returns-in_err-write_fields : goal.returns-in_err-write_fields
returns-in_err-write_fields g c =
    let begun = wrote_longer (codes "\n") (wrote_both c.in_ok-write_piece.ensures c.in_err-write_fields.ensures) in
    wrote_same _ (state_text-parts c.args.monitor.now c.fields.result.now c.values.result.now c.args.state.now c.fields.ensures.fields c.values.ensures.values) (wrote_fails _ c.from_residual-in_err-write_fields.ensures.0 begun)

pub returns : goal.returns
returns g c =
    let all = wrote_both (wrote_both c.in_ok-write_piece.ensures c.in_ok-write_fields.ensures) c.write_piece-2.ensures in
    wrote_same _ (state_text-parts c.args.monitor.now c.fields.result.now c.values.result.now c.args.state.now c.fields.ensures.fields c.values.ensures.values) all
