use Rattle.std.proofs.Common.{codes, refl}
use Rattle.lang_printer.specs.Depths.{levels}
use Rattle.lang_printer.specs.Printing.{block_text}
use Rattle.lang_printer.proofs.Files.{text-guarded}
use Rattle.base_io.proofs.Writing.{wrote_both, wrote_fails, wrote_longer, wrote_same}
use Rattle.lang_printer.proofs.printer.write_guarded.Goals as goal

pub returns-in_err-write_around : goal.returns-in_err-write_around
returns-in_err-write_around g c =
    let begun = wrote_longer (block_text (levels c.args.depth.now) c.args.block.now.body) c.in_err-write_around.ensures in
    wrote_same _ (text-guarded c.args.lead.now c.args.opening.now c.args.block.now _ _ refl) (wrote_fails _ c.from_residual.ensures.0 (wrote_longer (codes "\n") begun))

pub returns-in_err-write_block : goal.returns-in_err-write_block
returns-in_err-write_block g c =
    let begun = wrote_both c.in_ok-write_around.ensures c.in_err-write_block.ensures in
    wrote_same _ (text-guarded c.args.lead.now c.args.opening.now c.args.block.now _ _ c.items.ensures) (wrote_fails _ c.from_residual-in_err-write_block.ensures.0 (wrote_longer (codes "\n") begun))

pub returns : goal.returns
returns g c =
    let all = wrote_both (wrote_both c.in_ok-write_around.ensures c.in_ok-write_block.ensures) c.write_piece.ensures in
    wrote_same _ (text-guarded c.args.lead.now c.args.opening.now c.args.block.now _ _ c.items.ensures) all
