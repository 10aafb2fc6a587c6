use Rattle.std.proofs.Common.{refl}
use Rattle.lang_printer.specs.Printing.{body_text}
use Rattle.lang_printer.proofs.Depths.{levels-Margin}
use Rattle.lang_printer.proofs.Clients.{text-client}
use Rattle.base_io.proofs.Writing.{wrote_both, wrote_fails, wrote_longer, wrote_same}
use Rattle.lang_printer.proofs.printer.clients.write_client.Goals as goal

pub returns-in_err-write_pieces : goal.returns-in_err-write_pieces
returns-in_err-write_pieces g c =
    wrote_same _ (text-client c.args.client.now _ _ _ c.bytes.ensures refl refl) (wrote_fails _ c.from_residual.ensures.0 (wrote_longer (body_text 0 c.args.client.now.items) c.in_err-write_pieces.ensures))

pub returns : goal.returns
returns g c =
    wrote_same _ (text-client c.args.client.now _ _ _ c.bytes.ensures c.items.ensures levels-Margin) (wrote_both c.in_ok-write_pieces.ensures c.write_body.ensures)
