use Rattle.std.proofs.Common.{◌++◌, ap, codes, refl}
use Rattle.std.specs.List.{flat_map}
use Rattle.lang_printer.specs.Canonical.{local_text, guarded_text}
use Rattle.lang_printer.proofs.Depths.{levels-second}
use Rattle.base_io.proofs.Writing.{wrote_both, wrote_fails, wrote_longer, wrote_same}
use Rattle.lang_printer.proofs.printer.write_lines.Goals as goal

pub returns-in_err-write_piece : goal.returns-in_err-write_piece
returns-in_err-write_piece g c =
    let begun = wrote_longer (flat_map local_text c.args.locals.now) c.in_err-write_piece.ensures in
    wrote_fails _ c.from_residual.ensures.0 (wrote_longer (flat_map (λ block. codes "    " ++ guarded_text c.args.opening.now 2 block) c.args.blocks.now) begun)

pub returns-in_err-write_declarations : goal.returns-in_err-write_declarations
returns-in_err-write_declarations g c =
    let begun = wrote_both c.in_ok-write_piece.ensures c.in_err-write_declarations.ensures in
    wrote_fails _ c.from_residual-in_err-write_declarations.ensures.0 (wrote_longer (flat_map (λ block. codes "    " ++ guarded_text c.args.opening.now 2 block) c.args.blocks.now) begun)

pub returns : goal.returns
returns g c =
    let all = wrote_both (wrote_both c.in_ok-write_piece.ensures c.in_ok-write_declarations.ensures) c.write_each.ensures in
    wrote_same _ (ap (λ depth. codes "\n" ++ flat_map local_text c.args.locals.now ++ flat_map (λ block. codes "    " ++ guarded_text c.args.opening.now depth block) c.args.blocks.now) (levels-second _ _ refl refl)) all
