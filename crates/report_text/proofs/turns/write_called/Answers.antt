use Rattle.std.proofs.Common.{codes}
use Rattle.base_io.proofs.Writing.{wrote_both, wrote_fails, wrote_longer, wrote_same}
use Rattle.report_text.proofs.TurnsRows.{called_text-parts}
use Rattle.report_text.proofs.turns.write_called.Goals as goal

pub returns-in_err-write_inputs-in-Some : goal.returns-in_err-write_inputs-in-Some
returns-in_err-write_inputs-in-Some g c =
    let text = called_text-parts c.args.monitor.now c.args.call c.in-Some.call _ _ _ c.in-Some.is c.try_bytes.ensures c.method_bytes-name.ensures c.items.ensures in
    wrote_same _ text (wrote_fails _ c.from_residual-in_err-write_inputs-in-Some.ensures.0 (wrote_longer (codes ")") (wrote_both c.in_ok-write_begun-in-Some.ensures c.in_err-write_inputs-in-Some.ensures)))

pub returns-in_ok-write_inputs-in-Some : goal.returns-in_ok-write_inputs-in-Some
returns-in_ok-write_inputs-in-Some g c =
    let text = called_text-parts c.args.monitor.now c.args.call c.in-Some.call _ _ _ c.in-Some.is c.try_bytes.ensures c.method_bytes-name.ensures c.items.ensures in
    wrote_same _ text (wrote_both (wrote_both c.in_ok-write_begun-in-Some.ensures c.in_ok-write_inputs-in-Some.ensures) c.write_piece.ensures)
