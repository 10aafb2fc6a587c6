use Rattle.std.proofs.Common.{codes, refl}
use Rattle.lang_printer.specs.CanonicalClients.{arguments_text}
use Rattle.lang_printer.proofs.Clients.{text-called}
use Rattle.base_io.proofs.Writing.{wrote_both, wrote_fails, wrote_longer, wrote_same}
use Rattle.lang_printer.proofs.printer.clients.write_call.Goals as goal

pub returns-in_err-write_called : goal.returns-in_err-write_called
returns-in_err-write_called g c =
    let begun = wrote_both c.in_ok-write_indent.ensures c.in_err-write_called.ensures in
    let whole = wrote_fails _ c.from_residual-in_err-write_called.ensures.0 (wrote_longer (codes ");\n") (wrote_longer (arguments_text c.args.given.now) begun)) in
    wrote_same _ (text-called _ _ _ _ _ _ c.try_bytes.ensures refl) whole

pub returns-in_err-write_arguments : goal.returns-in_err-write_arguments
returns-in_err-write_arguments g c =
    let begun = wrote_both (wrote_both c.in_ok-write_indent.ensures c.in_ok-write_called.ensures) c.in_err-write_arguments.ensures in
    let whole = wrote_fails _ c.from_residual-in_err-write_arguments.ensures.0 (wrote_longer (codes ");\n") begun) in
    wrote_same _ (text-called _ _ _ _ _ _ c.try_bytes.ensures refl) whole

pub returns : goal.returns
returns g c =
    let whole = wrote_both (wrote_both (wrote_both c.in_ok-write_indent.ensures c.in_ok-write_called.ensures) c.in_ok-write_arguments.ensures) c.write_piece.ensures in
    wrote_same _ (text-called _ _ _ _ _ _ c.try_bytes.ensures refl) whole
