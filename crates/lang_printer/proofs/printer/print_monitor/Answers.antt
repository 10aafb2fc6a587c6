use Rattle.std.proofs.Common.{codes, refl}
use Rattle.std.specs.List.{flat_map}
use Rattle.lang_printer.specs.Canonical.{declaration_text, method_text}
use Rattle.lang_printer.proofs.Files.{text-tree}
use Rattle.base_io.proofs.Writing.{wrote_both, wrote_fails, wrote_longer, wrote_same}
use Rattle.lang_printer.proofs.printer.print_monitor.Goals as goal

pub returns-in_err-write_pieces : goal.returns-in_err-write_pieces
returns-in_err-write_pieces g c =
    let begun = wrote_longer (codes "}\n") (wrote_longer (flat_map method_text c.args.tree.now.methods) (wrote_longer (flat_map declaration_text c.args.tree.now.decls) c.in_err-write_pieces.ensures)) in
    wrote_same _ (text-tree c.args.tree.now _ _ _ c.bytes.ensures refl refl) (wrote_fails _ c.from_residual.ensures.0 begun)

pub returns-in_err-write_declarations : goal.returns-in_err-write_declarations
returns-in_err-write_declarations g c =
    let begun = wrote_longer (codes "}\n") (wrote_longer (flat_map method_text c.args.tree.now.methods) (wrote_both c.in_ok-write_pieces.ensures c.in_err-write_declarations.ensures)) in
    wrote_same _ (text-tree c.args.tree.now _ _ _ c.bytes.ensures c.items.ensures refl) (wrote_fails _ c.from_residual-in_err-write_declarations.ensures.0 begun)

pub returns-in_err-write_methods : goal.returns-in_err-write_methods
returns-in_err-write_methods g c =
    let begun = wrote_longer (codes "}\n") (wrote_both (wrote_both c.in_ok-write_pieces.ensures c.in_ok-write_declarations.ensures) c.in_err-write_methods.ensures) in
    wrote_same _ (text-tree c.args.tree.now _ _ _ c.bytes.ensures c.items.ensures c.items-2.ensures) (wrote_fails _ c.from_residual-in_err-write_methods.ensures.0 begun)

pub returns : goal.returns
returns g c =
    let all = wrote_both (wrote_both (wrote_both c.in_ok-write_pieces.ensures c.in_ok-write_declarations.ensures) c.in_ok-write_methods.ensures) c.write_piece.ensures in
    wrote_same _ (text-tree c.args.tree.now _ _ _ c.bytes.ensures c.items.ensures c.items-2.ensures) all
