use Rattle.std.proofs.Common.{◌++◌, ◌∙◌, codes, ap, refl}
use Rattle.std.proofs.lemmas.List.{take_all}
use Rattle.std.specs.List.{flat_map}
use Rattle.lang_printer.specs.Printing.{part_text, later_factor, later_addend}
use Rattle.base_io.proofs.Rows.{row_went, row_stopped}
use Rattle.base_io.proofs.Writing.{wrote_both, wrote_fails, wrote_longer, wrote_same}
use Rattle.lang_printer.proofs.Printing.{after_first, joined_parts-cut, part_text-open, later_factor-of, later_addend-of, text-Product, text-Sum, text-Compare, text-Both, text-Either}
use Rattle.lang_printer.proofs.printer.expressions.+write_expression.Goals as goal

pub write_at_level-returns-in_err-write_expression : goal.write_at_level-returns-in_err-write_expression
write_at_level-returns-in_err-write_expression g t c =
    wrote_same _ (part_text-open c.args.asked c.level.result c.args.part.now c.level.ensures c.if-asked-level.false)
    (wrote_fails _ c.from_residual-in_err-write_expression.ensures.0 (wrote_both c.in_ok-write_piece.ensures (wrote_longer (codes ")") c.in_err-write_expression.ensures)))

pub write_at_level-returns : goal.write_at_level-returns
write_at_level-returns g t c =
    wrote_same _ (part_text-open c.args.asked c.level.result c.args.part.now c.level.ensures c.if-asked-level.false)
    (wrote_both c.in_ok-write_piece.ensures (wrote_both c.in_ok-write_expression.ensures c.write_piece-2.ensures))

pub write_after-returns : goal.write_after-returns
write_after-returns g t c = wrote_both c.in_ok-write_piece.ensures c.write_at_level.ensures

pub write_factors-loop-factor-preserved : goal.write_factors-loop-factor-preserved
write_factors-loop-factor-preserved g t c =
    row_went later_factor c.args.factors.now c.loop-factor.factor-index c.factor-item.result _ c.loop-factor-test.true c.factor-item.is (later_factor-of c.factor-item.result) c.loop-factor.invariant c.in_ok-write_after.ensures

pub write_factors-returns-in_err-write_after : goal.write_factors-returns-in_err-write_after
write_factors-returns-in_err-write_after g t c =
    row_stopped later_factor c.args.factors.now c.loop-factor.factor-index c.factor-item.result _ _ c.loop-factor-test.true c.factor-item.is (later_factor-of c.factor-item.result) c.from_residual.ensures.0 c.loop-factor.invariant c.in_err-write_after.ensures

pub write_addends-loop-addend-preserved : goal.write_addends-loop-addend-preserved
write_addends-loop-addend-preserved g t c =
    let says = ap (λ sign. sign ++ part_text 5 c.addend-item.result.of) c.sign_bytes.ensures ∙ later_addend-of c.addend-item.result in
    row_went later_addend c.args.addends.now c.loop-addend.addend-index c.addend-item.result _ c.loop-addend-test.true c.addend-item.is says c.loop-addend.invariant c.in_ok-write_after.ensures

pub write_addends-returns-in_err-write_after : goal.write_addends-returns-in_err-write_after
write_addends-returns-in_err-write_after g t c =
    let says = ap (λ sign. sign ++ part_text 5 c.addend-item.result.of) c.sign_bytes.ensures ∙ later_addend-of c.addend-item.result in
    row_stopped later_addend c.args.addends.now c.loop-addend.addend-index c.addend-item.result _ _ c.loop-addend-test.true c.addend-item.is says c.from_residual.ensures.0 c.loop-addend.invariant c.in_err-write_after.ensures

pub write_joined-returns : goal.write_joined-returns
write_joined-returns g t c =
    let whole = ap (λ rest. part_text c.args.asked c.first-item.result ++ flat_map (λ part. c.args.sign.now ++ part_text c.args.asked part) rest) (take_all c.loop-part.part-index (after_first c.args.parts.now) c.loop-part-test.false) in
    wrote_same _ (whole ∙ joined_parts-cut c.args.sign.now c.args.asked c.args.parts.now c.first-item.result c.in-len1-up.len_at_least c.first-item.is) (wrote_both c.in_ok-write_at_level.ensures c.loop-part.invariant)

pub write_joined-returns-in_err-write_after : goal.write_joined-returns-in_err-write_after
write_joined-returns-in_err-write_after g t c =
    let stopped = row_stopped (λ part. c.args.sign.now ++ part_text c.args.asked part) (after_first c.args.parts.now) c.loop-part.part-index c.part-item.result _ _ c.loop-part-test.true c.part-item.is refl c.from_residual-in_err-write_after.ensures.0 c.loop-part.invariant c.in_err-write_after.ensures in
    wrote_same _ (joined_parts-cut c.args.sign.now c.args.asked c.args.parts.now c.first-item.result c.in-len1-up.len_at_least c.first-item.is) (wrote_both c.in_ok-write_at_level.ensures stopped)

pub write_joined-returns-in_err-write_at_level : goal.write_joined-returns-in_err-write_at_level
write_joined-returns-in_err-write_at_level g t c =
    wrote_same _ (joined_parts-cut c.args.sign.now c.args.asked c.args.parts.now c.first-item.result c.in-len1-up.len_at_least c.first-item.is) (wrote_fails _ c.from_residual.ensures.0 (wrote_longer _ c.in_err-write_at_level.ensures))

pub write_joined-loop-part-preserved : goal.write_joined-loop-part-preserved
write_joined-loop-part-preserved g t c =
    row_went (λ part. c.args.sign.now ++ part_text c.args.asked part) (after_first c.args.parts.now) c.loop-part.part-index c.part-item.result _ c.loop-part-test.true c.part-item.is refl c.loop-part.invariant c.in_ok-write_after.ensures

pub write_expression-returns-in_ok-write_at_level-in-Product : goal.write_expression-returns-in_ok-write_at_level-in-Product
write_expression-returns-in_ok-write_at_level-in-Product g t c =
    wrote_same _ (text-Product _ _ _ _ _ c.in-Product.is c.get-in-Product.ensures c.items.ensures) (wrote_both c.in_ok-write_at_level-in-Product.ensures c.write_factors.ensures)

pub write_expression-returns-in_ok-write_at_level-in-Sum : goal.write_expression-returns-in_ok-write_at_level-in-Sum
write_expression-returns-in_ok-write_at_level-in-Sum g t c =
    wrote_same _ (text-Sum _ _ _ _ _ c.in-Sum.is c.get-in-Sum.ensures c.items-in-Sum.ensures) (wrote_both c.in_ok-write_at_level-in-Sum.ensures c.write_addends.ensures)

pub write_expression-returns-in_ok-write_at_level-in-Compare : goal.write_expression-returns-in_ok-write_at_level-in-Compare
write_expression-returns-in_ok-write_at_level-in-Compare g t c =
    wrote_same _ (text-Compare _ _ _ _ _ _ _ c.in-Compare.is c.get-in-Compare.ensures c.op_bytes.ensures c.get-in-Compare-2.ensures) (wrote_both c.in_ok-write_at_level-in-Compare.ensures c.write_after-in-Compare.ensures)

pub write_expression-returns-in-Both : goal.write_expression-returns-in-Both
write_expression-returns-in-Both g t c = wrote_same _ (text-Both _ _ _ c.in-Both.is c.items-in-Both.ensures) c.write_joined.ensures

pub write_expression-returns-in-Either : goal.write_expression-returns-in-Either
write_expression-returns-in-Either g t c = wrote_same _ (text-Either _ _ _ c.in-Either.is c.items-in-Either.ensures) c.write_joined-in-Either.ensures
