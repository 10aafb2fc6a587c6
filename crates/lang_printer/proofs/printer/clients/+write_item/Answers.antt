use Rattle.std.proofs.Common.{ap, refl, codes}
use Rattle.lang_printer.specs.CanonicalClients.{item_text}
use Rattle.lang_printer.specs.Depths.{levels}
use Rattle.lang_printer.specs.Printing.{items_text, body_text}
use Rattle.base_io.proofs.Rows.{row_stopped}
use Rattle.lang_printer.proofs.Depths.{levels-Below}
use Rattle.lang_printer.proofs.Clients.{text-Call, text-Repeat}
use Rattle.base_io.proofs.Writing.{wrote_both, wrote_fails, wrote_longer, wrote_same}
use Rattle.lang_printer.proofs.printer.clients.+write_item.Goals as goal

pub write_body-returns-in_err-write_indent : goal.write_body-returns-in_err-write_indent
write_body-returns-in_err-write_indent g t c =
    let inner = wrote_same _ (ap (λ n. items_text n c.args.items.now) (levels-Below _)) c.in_ok-write_items.ensures in
    wrote_fails _ c.from_residual-in_err-write_indent.ensures.0 (wrote_longer (codes "}\n") (wrote_both inner c.in_err-write_indent.ensures))

pub write_body-returns : goal.write_body-returns
write_body-returns g t c =
    let inner = wrote_same _ (ap (λ n. items_text n c.args.items.now) (levels-Below _)) c.in_ok-write_items.ensures in
    wrote_both (wrote_both inner c.in_ok-write_indent.ensures) c.write_piece.ensures

pub write_item-returns-in-Call : goal.write_item-returns-in-Call
write_item-returns-in-Call g t c = wrote_same _ (text-Call _ _ _ _ _ _ _ _ c.in-Call.is c.items.ensures) c.write_call.ensures

pub write_item-returns-in_err-write_times-in-Repeat : goal.write_item-returns-in_err-write_times-in-Repeat
write_item-returns-in_err-write_times-in-Repeat g t c =
    wrote_same _ (text-Repeat _ _ _ _ _ _ c.in-Repeat.is refl) (wrote_fails _ c.from_residual.ensures.0 (wrote_longer (body_text (levels c.args.depth.now) c.in-Repeat.items) c.in_err-write_times-in-Repeat.ensures))

pub write_item-returns-in_ok-write_times-in-Repeat : goal.write_item-returns-in_ok-write_times-in-Repeat
write_item-returns-in_ok-write_times-in-Repeat g t c =
    wrote_same _ (text-Repeat _ _ _ _ _ _ c.in-Repeat.is c.items-in-Repeat.ensures) (wrote_both c.in_ok-write_times-in-Repeat.ensures c.write_body.ensures)

pub write_items-returns-in_err-write_item : goal.write_items-returns-in_err-write_item
write_items-returns-in_err-write_item g t c =
    row_stopped (λ item. item_text item (levels c.args.depth.now)) c.args.items.now c.loop-item.item-index c.item-item.result _ _ c.loop-item-test.true c.item-item.is refl c.from_residual.ensures.0 c.loop-item.invariant c.in_err-write_item.ensures
