use Rattle.std.specs.Option.{option_copied}
use Rattle.base_io.proofs.Writing.{wrote_both, wrote_fails, wrote_longer, wrote_same}
use Rattle.report_text.proofs.TurnsRows.{call_text-parts}
use Rattle.report_text.proofs.turns.write_call.Goals as goal

pub returns-in_err-write_numbers : goal.returns-in_err-write_numbers
returns-in_err-write_numbers g c =
    let text = call_text-parts c.args.monitor.now c.args.clients.now c.args.client c.args.number c.args.block c.blocks_of.result c.name_of.result.now (option_copied c.called-call.result) c.name_of.ensures c.called-call.ensures c.blocks_of.ensures in
    wrote_same _ text (wrote_fails _ c.from_residual-in_err-write_numbers.ensures.0 (wrote_longer _ (wrote_longer _ (wrote_both c.in_ok-write_pieces.ensures c.in_err-write_numbers.ensures))))

pub returns-in_err-write_piece : goal.returns-in_err-write_piece
returns-in_err-write_piece g c =
    let text = call_text-parts c.args.monitor.now c.args.clients.now c.args.client c.args.number c.args.block c.blocks_of.result c.name_of.result.now (option_copied c.called-call.result) c.name_of.ensures c.called-call.ensures c.blocks_of.ensures in
    wrote_same _ text (wrote_fails _ c.from_residual-in_err-write_piece.ensures.0 (wrote_longer _ (wrote_both (wrote_both c.in_ok-write_pieces.ensures c.in_ok-write_numbers.ensures) c.in_err-write_piece.ensures)))

pub returns : goal.returns
returns g c =
    let text = call_text-parts c.args.monitor.now c.args.clients.now c.args.client c.args.number c.args.block c.blocks_of.result c.name_of.result.now (option_copied c.called-call.result) c.name_of.ensures c.called-call.ensures c.blocks_of.ensures in
    wrote_same _ text (wrote_both (wrote_both (wrote_both c.in_ok-write_pieces.ensures c.in_ok-write_numbers.ensures) c.in_ok-write_piece.ensures) c.write_called.ensures)
