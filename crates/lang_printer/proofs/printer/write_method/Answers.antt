use Rattle.std.proofs.Common.{codes, refl}
use Rattle.lang_printer.specs.Canonical.{joined, input_texts, opening_text, blocks_text}
use Rattle.lang_printer.proofs.Files.{text-method}
use Rattle.base_io.proofs.Writing.{wrote_both, wrote_fails, wrote_longer, wrote_same}
use Rattle.lang_printer.proofs.printer.write_method.Goals as goal

pub returns-in_err-write_pieces : goal.returns-in_err-write_pieces
returns-in_err-write_pieces g c =
    let begun = wrote_longer (codes ")") (wrote_longer (joined (codes ", ") (input_texts c.args.method.now.inputs)) c.in_err-write_pieces.ensures) in
    let more = wrote_longer (blocks_text (opening_text c.args.method.now.asserts) c.args.method.now.locals c.args.method.now.blocks) begun in
    wrote_same _ (text-method c.args.method.now _ _ _ _ _ c.bytes.ensures refl refl refl refl) (wrote_fails _ c.from_residual.ensures.0 more)

pub returns-in_err-write_inputs : goal.returns-in_err-write_inputs
returns-in_err-write_inputs g c =
    let begun = wrote_longer (codes ")") (wrote_both c.in_ok-write_pieces.ensures c.in_err-write_inputs.ensures) in
    let more = wrote_longer (blocks_text (opening_text c.args.method.now.asserts) c.args.method.now.locals c.args.method.now.blocks) begun in
    wrote_same _ (text-method c.args.method.now _ _ _ _ _ c.bytes.ensures c.items.ensures refl refl refl) (wrote_fails _ c.from_residual-in_err-write_inputs.ensures.0 more)

pub returns-in_err-write_piece : goal.returns-in_err-write_piece
returns-in_err-write_piece g c =
    let begun = wrote_both (wrote_both c.in_ok-write_pieces.ensures c.in_ok-write_inputs.ensures) c.in_err-write_piece.ensures in
    let more = wrote_longer (blocks_text (opening_text c.args.method.now.asserts) c.args.method.now.locals c.args.method.now.blocks) begun in
    wrote_same _ (text-method c.args.method.now _ _ _ _ _ c.bytes.ensures c.items.ensures refl refl refl) (wrote_fails _ c.from_residual-in_err-write_piece.ensures.0 more)

pub returns : goal.returns
returns g c =
    let all = wrote_both (wrote_both (wrote_both c.in_ok-write_pieces.ensures c.in_ok-write_inputs.ensures) c.in_ok-write_piece.ensures) c.write_blocks.ensures in
    wrote_same _ (text-method c.args.method.now _ _ _ _ _ c.bytes.ensures c.items.ensures c.opening_bytes-opening.ensures c.items-2.ensures c.items-3.ensures) all
