use Rattle.std.proofs.Common.{◌≡◌, length, refl, arith}
use Rattle.lang_printer.proofs.Depths.{levels-inner}
use Rattle.lang_printer.proofs.Files.{text-one, text-lines}
use Rattle.base_io.proofs.Writing.{wrote_same}
use Rattle.lang_printer.proofs.printer.write_blocks.Goals.{else-is_empty-via-then-is_empty+else-blocks-eq1, else-is_empty-via-else-is_empty}
use Rattle.lang_printer.proofs.printer.write_blocks.Goals as goal

pub returns-then-blocks-eq1 : goal.returns-then-blocks-eq1
returns-then-blocks-eq1 g c =
    let none : length c.args.locals.now ≡ 0 = search (arith, c.is_empty.ensures, c.if-is_empty.true) in
    wrote_same _ (text-one _ _ _ _ _ none c.if-blocks-eq1.true c.index-blocks-0.is (levels-inner _ refl)) c.write_guarded.ensures

pub returns : goal.returns
returns g c =
    let other : length c.args.locals.now ≡ 0 → length c.args.blocks.now ≡ 1 → ⊥ = λ none one. elim c.else-is_empty.branch [
      | else-is_empty-via-then-is_empty+else-blocks-eq1 w ↦ search (arith, w.if-blocks-eq1.false, one)
      | else-is_empty-via-else-is_empty w ↦ search (arith, c.is_empty.ensures, w.if-is_empty.false, none)
    ] in
    wrote_same _ (text-lines _ _ _ other) c.write_lines.ensures
